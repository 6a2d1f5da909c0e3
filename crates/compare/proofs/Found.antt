-- The first answer of `find_map` over a range, said of the numbers in it. Assumes nothing.
use Rattle.std.proofs.Common.{◌≡◌, ℕ, ◌+◌, ◌-◌, ◌<◌, ◌≤◌, Some, None, Option, MatchOption, IfSome, IsSomeAnd, IsTrue, ap, subst, ◌∙◌, arith}
use Rattle.std.specs.Option.{option_map}
use Rattle.std.specs.Iterator.Runs.{SomeRun, AllItemsGive, IsFirstToGive, CallKeepsClosure}
use Rattle.std.proofs.iter.runs.Sources.{range_runs}
use Rattle.std.proofs.iter.Yields.{nat_range_steps}
use denote.Param.Members.{Mut, Called}

-- what holds of the item at a place holds of the number that stands there
at_place : (o : Option ℕ) (n : ℕ) (P : ℕ → Type 0) → option_map (λ y. y) o ≡ Some n → IfSome o P → P n
at_place None n P e h = absurd (subst (λ q. MatchOption q (Unit {0}) (λ _. ⊥)) e tt)
at_place (Some x) n P e h = subst (λ q. MatchOption q (Unit {0}) P) e h

at_place_and : (o : Option ℕ) (n : ℕ) (P : ℕ → Type 0) → option_map (λ y. y) o ≡ Some n → IsSomeAnd o P → P n
at_place_and None n P e h = elim h [ ]
at_place_and (Some x) n P e h = subst (λ q. MatchOption q (Unit {0}) P) e h

module _ {F B : Type 0} {g : Mut F (ℕ × Unit {0}) (Option B)} (f : F) (a b : ℕ) where
  pub first_from_find_map : (r : Option B) (No : ℕ → Type 0)
      → SomeRun nat_range_steps record { start = a; end = b } (λ p. MatchOption r (IsTrue p.whole × AllItemsGive p g f None) (λ y. (i : ℕ) × (i < p.len) × (p.len ≡ i + 1) × IsFirstToGive p g f (Some y) None i))
      → CallKeepsClosure g f
      → ((x : ℕ) → Called g f (x, tt) None f → No x)
      → MatchOption r ((k : ℕ) → a ≤ k → k < b → No k) (λ y. (i : ℕ) × (a ≤ i) × (i < b) × Called g f (i, tt) (Some y) f × ((k : ℕ) → a ≤ k → k < i → No k))
  first_from_find_map None No (p, from, d) keeps miss =
      let up = range_runs p p.seen in
      let begin : p.from.start ≡ a = ap (λ s. s.start) from in
      let end : p.from.end ≡ b = ap (λ s. s.end) from in
      λ k lo hi. miss k (at_place (p.at (k - a)) k (λ x. Called g f (x, tt) None f) (up.3 (k - a) (omega (arith, up.1 d.0)) ∙ ap Some (omega arith)) (d.1 keeps (k - a)))
  first_from_find_map (Some y) No (p, from, d) keeps miss =
      let up = range_runs p p.seen in
      let begin : p.from.start ≡ a = ap (λ s. s.start) from in
      let end : p.from.end ≡ b = ap (λ s. s.end) from in
      let i = d.0 in
      let met = d.3 keeps in (
        a + i,
        omega arith,
        omega (arith, up.0, d.1, begin, end),
        at_place_and (p.at i) (a + i) (λ x. Called g f (x, tt) (Some y) f) (up.3 i d.1 ∙ ap Some (omega (arith, begin))) met.0,
        λ k lo hi. miss k (at_place_and (p.at (k - a)) k (λ x. Called g f (x, tt) None f) (up.3 (k - a) (omega (arith, d.1)) ∙ ap Some (omega (arith, begin))) (met.1 (k - a) (omega arith))),
      )
