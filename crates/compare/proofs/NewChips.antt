-- Two traces on two new chips: the laws of equality with nothing left to assume. Assumes nothing.
use Rattle.std.proofs.Common.{◌≡◌, ℕ, ◌*◌, ◌≤◌, Bool, List, length, refl, sym, ap₂, ◌∙◌, subst}
use Rattle.records.proofs.Joins.{one_reading}
use Rattle.words.specs.Kind.{Kind}
use Rattle.arrays.specs.Meaning.{Shape}
use Rattle.arrays.specs.Flat.{flat_blocks, Beyond}
use Rattle.arrays.specs.Rest.{lent, flat_lent}
use Rattle.arrays.proofs.Rests.{rest_beyond}
use Rattle.rules.specs.declared.control.Opening.{Opening}
use Rattle.rules.specs.Answering.{Answer}
use Rattle.rules.specs.Running.{Chip}
use Rattle.compare.specs.Compared.{BothNew, TracesCompared}
use Rattle.compare.specs.Built.{new_chip, Built}

module _ {K : Kind} where
  both_new : (s s' : Shape) → s ≡ s' → BothNew K (new_chip K s) (new_chip K s')
  both_new s s' e = record {
    one = record { control = refl; memory = record { codes = λ row column. refl; counts = λ row. refl } };
    other = record { control = refl; memory = record { codes = λ row column. refl; counts = λ row. refl } };
    shapes = e;
  }

  pub built : (o : Opening) (s s' : Shape) {t t' : List ℕ} {told told' : List Answer} {d d' : Chip} {ae ce : Bool}
      → TracesCompared K o o (new_chip K s) t told d (new_chip K s') t' told' d' ae ce → Built K o s s' t told d t' told' d' ae ce
  built o s s' {t} {t'} x = record {
    traces = x;
    law_of_cells = λ e. x.compared.law_of_cells (both_new s s' e);
    law_of_failures = λ e same. x.compared.law_of_failures (both_new s s' e) refl (record { devices = refl; limits = refl })
        (one_reading t x.calls x.other_calls x.read (same ∙ x.other_read));
  }

-- as it was, and as it was again
beyond_both : (n : ℕ) (cs ns cs' ns' cs'' ns'' : List ℕ) → Beyond n cs ns cs' ns' → Beyond n cs' ns' cs'' ns'' → Beyond n cs ns cs'' ns''
beyond_both n cs ns cs' ns' cs'' ns'' a b =
    let size : flat_blocks n (length cs') (length ns') ≡ flat_blocks n (length cs) (length ns) = ap₂ (flat_blocks n) a.codes_length a.counts_length in
    record {
      codes_length = b.codes_length ∙ a.codes_length;
      counts_length = b.counts_length ∙ a.counts_length;
      codes_kept = λ i h. b.codes_kept i (subst (λ (m : ℕ). m * (32 * n) ≤ i) (sym size) h) ∙ a.codes_kept i h;
      counts_kept = λ i h. b.counts_kept i (subst (λ (m : ℕ). 32 * m ≤ i) (sym size) h) ∙ a.counts_kept i h;
    }

-- as it was beyond the shape when the chip was opened, and then the rest of the array stayed
pub beyond_kept : (columns n n' w c w' c' : ℕ) (cs ns cs' ns' cs'' ns'' : List ℕ) → n ≡ columns → Beyond columns cs ns cs' ns'
    → lent (flat_lent w' c' n' cs'' ns'') ≡ lent (flat_lent w c n cs' ns') → Beyond columns cs ns cs'' ns''
beyond_kept columns n n' w c w' c' cs ns cs' ns' cs'' ns'' e opened kept =
    beyond_both columns cs ns cs' ns' cs'' ns'' opened (subst (λ (m : ℕ). Beyond m cs' ns' cs'' ns'') e (rest_beyond w c w' c' n n' cs' ns' cs'' ns'' kept))
