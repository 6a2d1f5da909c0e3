-- The array of a chip fails only where it is not willing; and how row cycles count. Assumes nothing.
use Rattle.std.proofs.Common.{◌≡◌, ℕ, suc, ◌+◌, ◌*◌, ◌%◌, Bool, true, false, cond, not, ◌&&◌, eqb, List, [], ◌∷◌, map, length, take, Some, None, Option, sym, refl, ap, ◌∙◌, arith, length-take}
use lib.ListN.{length-map}
use Rattle.std.proofs.lemmas.Bool.{eqb-true, eq-eqb, and_parts, and_from, not-false}
use Rattle.words.specs.Kind.{Kind, KindLaws, all_lawful}
use Rattle.arrays.specs.Meaning.{Meaning, Operation, nothing, programs, fills, accepts}
use Rattle.records.specs.declared.call.Call.{Call}
use Rattle.rules.specs.declared.part.Part.{Part}
use Rattle.rules.specs.declared.state.Work.{Work}
use Rattle.rules.specs.declared.control.Opening.{Opening}
use Rattle.rules.specs.declared.control.Control.{Control}
use Rattle.rules.specs.Parts.{columns, most_rows, next_row}
use Rattle.rules.specs.Controls.{under}
use Rattle.rules.specs.Answering.{is_dead}
use Rattle.rules.specs.Asking.{Ending, none, whole, torn, ending, operation_of, operation}
use Rattle.rules.specs.Conduct.{willing, OnlyTheUnwillingFail, RowsCountLowFirst, RegisterIsLawful}
use Rattle.rules.proofs.Lows.{IsLawful}
use Rattle.rules.proofs.Registers.{LawfulPage, lawful_take, lawful_torn}
use Rattle.rules.proofs.Failures.{fails}
use Rattle.rules.proofs.Beyond.{fits_blank, fits_run}
use Rattle.rules.proofs.Pages.{few_columns}
use Rattle.rules.proofs.Logs.{register_kept}

page_lawful : (K : Kind) (xs : List ℕ) → LawfulPage K xs → all_lawful K xs ≡ true
page_lawful K [] h = refl
page_lawful K (x ∷ xs) h = and_from (K.lawful x) (all_lawful K xs) (h 0) (page_lawful K xs (λ k. h (suc k)))

front_long : (p : Part) (codes : List ℕ) → length codes ≡ 528 → length (take (columns p) codes) ≡ columns p
front_long p codes e = length-take (columns p) codes ∙ (let h = few_columns p in omega arith)

and_true : (x y : Bool) → y ≡ true → (x && y) ≡ x
and_true x y e = grind arith

module _ (K : Kind) (L : KindLaws K) (p : Part) (m : Meaning) (same : m.holds.shape.columns ≡ columns p) where
  -- a page of lawful codes, one a column, is programmed where the row is willing
  page_accepted : (row : ℕ) (closes : Bool) (page : List ℕ) → length page ≡ columns p → LawfulPage K page
      → accepts K m (programs row page closes) ≡ m.willing_row row
  page_accepted row closes page long lawful =
      let a : eqb (length page) m.holds.shape.columns ≡ true = eq-eqb (length page) m.holds.shape.columns (long ∙ sym same) in
      let b : all_lawful K page ≡ true = page_lawful K page lawful in
      and_true (m.willing_row row) _ (and_from _ _ a b)

  fill_accepted : (block code : ℕ) → IsLawful K code → accepts K m (fills block code) ≡ m.willing_block block
  fill_accepted block code e = and_true (m.willing_block block) _ e

  work_accepted : (codes : List ℕ) (u : Option Work) (n : Ending) → length codes ≡ 528 → LawfulPage K codes
      → accepts K m (operation_of K p codes u n) ≡ willing m (operation_of K p codes u n)
  work_accepted codes None n long lawful = refl
  work_accepted codes (Some w) none long lawful = refl
  work_accepted codes (Some (Work.Program row closes)) whole long lawful =
      page_accepted row closes (take (columns p) codes) (front_long p codes long) (lawful_take K L (columns p) codes lawful)
  work_accepted codes (Some (Work.Erase block)) whole long lawful = fill_accepted block K.erased L.erased_lawful
  work_accepted codes (Some (Work.Program row closes)) torn long lawful =
      page_accepted row closes (map K.torn (take (columns p) codes)) (length-map (take (columns p) codes) K.torn ∙ front_long p codes long)
      (lawful_torn K L (take (columns p) codes) (lawful_take K L (columns p) codes lawful))
  work_accepted codes (Some (Work.Erase block)) torn long lawful = fill_accepted block K.torn_erase L.torn_erase_lawful

accepted : (K : Kind) → KindLaws K → (o : Opening) (m : Meaning) (c : Control) (call : Call) → length c.register.codes ≡ 528 → LawfulPage K c.register.codes
    → accepts K m (operation K o m.holds.shape c call) ≡ willing m (operation K o m.holds.shape c call)
unfolding operation
accepted K L o m c call long lawful = go (is_dead K o m.holds.shape) refl
  where
    x : Operation
    x = operation_of K o.part c.register.codes (under c.state) (ending o.part call)

    go : (d : Bool) → is_dead K o m.holds.shape ≡ d → accepts K m (cond d nothing x) ≡ willing m (cond d nothing x)
    go true e = refl
    go false e =
        work_accepted K L o.part m (eqb-true _ _ (and_parts _ _ (not-false _ e)).0) c.register.codes (under c.state) (ending o.part call) long lawful

pub register_is_lawful : RegisterIsLawful
register_is_lawful K L o m es c n r = page_lawful K c.control.register.codes (register_kept K L o m es c n r)

pub only_the_unwilling_fail : OnlyTheUnwillingFail
only_the_unwilling_fail K L o m es e c c' n r t =
    fails t
    ∙ ap not (accepted K L o c.memory c.control e.call (fits_run K o r (fits_blank K o.part)).long (register_kept K L o m es c n r))

three_cycles : (p : Part) (low middle high : ℕ)
    → next_row p (next_row p (next_row p 0 0 low) 1 middle) 2 high ≡ (low + 256 * middle + 65536 * high) % most_rows p
three_cycles p low middle high = grind arith

two_cycles : (p : Part) (low high : ℕ) → next_row p (next_row p 0 0 low) 1 high ≡ (low + 256 * high) % most_rows p
two_cycles p low high = grind arith

pub rows_count_low_first : RowsCountLowFirst
rows_count_low_first = record { three = three_cycles; two = two_cycles }
