-- The register keeps its places, and those beyond the part's columns stay erased. Assumes nothing.
use Rattle.std.proofs.Common.{◌≡◌, ℕ, ◌<◌, ◌≤◌, List, length, get_or, set, sym, ◌∙◌, subst, arith, length-set}
use lib.ListN.{length-replicate}
use Rattle.std.proofs.lemmas.List.{get_or-set_other}
use Rattle.words.specs.Kind.{Kind}
use Rattle.rules.specs.declared.part.Part.{Part}
use Rattle.rules.specs.declared.control.Opening.{Opening}
use Rattle.rules.specs.Parts.{columns}
use Rattle.rules.specs.Controls.{places, blank, page_of}
use Rattle.rules.specs.Running.{Chip, Event, Runs}
use Rattle.rules.specs.Conduct.{RegisterIsErasedBeyond}
use Rattle.rules.proofs.Registers.{keeps}
use Rattle.rules.proofs.Pages.{each_erased, page_long, page_beyond}

-- a list of codes as a register of the part holds it
pub record FitsRegister (K : Kind) (p : Part) (codes : List ℕ) : Type 0 where
  pub long : length codes ≡ 528
  pub beyond : (column : ℕ) → columns p ≤ column → get_or codes column K.erased ≡ K.erased

module _ (K : Kind) (p : Part) where
  pub fits_blank : FitsRegister K p (blank K.erased)
  unfolding blank
  fits_blank = record { long = length-replicate places K.erased; beyond = λ k h. each_erased places K.erased k }

  fits_page : (f : ℕ → ℕ) → FitsRegister K p (page_of p K.erased f)
  fits_page f = record { long = page_long p K.erased f; beyond = page_beyond p K.erased f }

  fits_set : (codes : List ℕ) (i w : ℕ) → i < columns p → FitsRegister K p codes → FitsRegister K p (set codes i w)
  fits_set codes i w h t = record {
    long = length-set codes i w ∙ t.long;
    beyond = λ k b. get_or-set_other codes i k w K.erased (omega arith) ∙ t.beyond k b;
  }

pub fits_run : (K : Kind) (o : Opening) {c c' : Chip} {es : List Event} → Runs K o c es c'
    → FitsRegister K o.part c.control.register.codes → FitsRegister K o.part c'.control.register.codes
fits_run K o Runs.stop k = k
fits_run K o (Runs.next {c = c} {e = e} t r) k =
    fits_run K o r (subst (λ x. FitsRegister K o.part x.register.codes) (sym t.moves)
    (keeps K o c.memory.holds.code (FitsRegister K o.part) (fits_blank K o.part) (λ row. fits_page K o.part (c.memory.holds.code row))
    (λ xs i w _ h z. fits_set K o.part xs i w h z) c.memory.holds e.failed c.control e.call e.answer t.answers k))

pub register_is_erased_beyond : RegisterIsErasedBeyond
register_is_erased_beyond K o m es c r = let k = fits_run K o r (fits_blank K o.part) in (k.long, k.beyond)
