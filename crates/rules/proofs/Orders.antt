-- Programs landed in any order, and any number of times, write the same lowest levels. Assumes nothing.
use Rattle.std.proofs.Common.{◌≡◌, ℕ, ◌⊎◌, List, [], ◌∷◌, ◌++◌, get_or, sym, subst, inl, inr}
use Rattle.words.specs.Kind.{Kind}
use Rattle.rules.specs.Written.{Landing, programmed, filled, Written, by_program, before_program}
use Rattle.rules.specs.Equality.{In, here, later, OnlyPrograms, AnyOrder}
use Rattle.rules.proofs.Lows.{since_program}

-- a code written by one of the programs
abbrev By : Kind → ℕ → ℕ → List Landing → ℕ → Type 0
By K row column ps c = (page : List ℕ) × In (programmed row page) ps × (c ≡ get_or page column K.erased)

module _ (K : Kind) (row column : ℕ) (base : List Landing) where
  apart : (ps : List Landing) → OnlyPrograms ps → (c : ℕ) → Written K row column (ps ++ base) c → By K row column ps c ⊎ Written K row column base c
  apart [] o c w = inr w
  apart (programmed at page ∷ ps) o c w = elim (since_program w) [
    | inl e ↦ inl (page, subst (λ r. In (programmed r page) (programmed at page ∷ ps)) (sym e.0) here, e.1)
    | inr u ↦ elim (apart ps o c u) [ inl b ↦ inl (b.0, later b.1, b.2) | inr v ↦ inr v ]
  ]
  apart (filled at d ∷ ps) o c w = absurd o

  by_one : (ps : List Landing) → OnlyPrograms ps → {page : List ℕ} → In (programmed row page) ps
      → Written K row column (ps ++ base) (get_or page column K.erased)
  by_one [] o i = elim i [ ]
  by_one (programmed at p ∷ ps) o here = by_program
  by_one (programmed at p ∷ ps) o (later i) = before_program (by_one ps o i)
  by_one (filled at c ∷ ps) o i = absurd o

  from_base : (ps : List Landing) → OnlyPrograms ps → (c : ℕ) → Written K row column base c → Written K row column (ps ++ base) c
  from_base [] o c w = w
  from_base (programmed at page ∷ ps) o c w = before_program (from_base ps o c w)
  from_base (filled at d ∷ ps) o c w = absurd o

  across : (ps qs : List Landing) → OnlyPrograms ps → OnlyPrograms qs → ((l : Landing) → In l ps → In l qs) → (c : ℕ)
      → Written K row column (ps ++ base) c → Written K row column (qs ++ base) c
  across ps qs o o' h c w = elim (apart ps o c w) [
    | inl b ↦ rw b.2 (by_one qs o' (h _ b.1))
    | inr v ↦ from_base qs o' c v
  ]

pub any_order : AnyOrder
any_order K ps qs base o o' same row column cell v low = record {
  some_code = (low.some_code.0, across K row column base ps qs o o' (λ l. (same l).0) _ low.some_code.1, low.some_code.2);
  none_lower = λ c w. low.none_lower c (across K row column base qs ps o' o (λ l. (same l).1) c w);
}
