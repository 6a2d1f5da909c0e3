-- What an array holds after it was asked for something. Assumes nothing.
use Rattle.std.proofs.Common.{◌≡◌, ℕ, ◌<◌, true, cond, ◌&&◌, eqb, ltb, sym, refl, ⊎_elim, arith}
use Rattle.std.proofs.lemmas.Bool.{and_parts, and_cases, cond_both, ltb-true, ltb-false, eqb-true, eqb-false, both_ways}
use Rattle.words.specs.Kind.{Kind}
use Rattle.arrays.specs.Meaning.{Shape, Contents, Meaning, Operation, accepts, performed, Performs}

-- an array that accepts what is asked, and then holds what it should
pub accepted : (K : Kind) (o : Operation) (m m' : Meaning) → accepts K m o ≡ true → m'.holds ≡ performed K o m.holds → Performs K o m true m'
accepted K o m m' e h = record { told = sym e; holding = h; kept = λ f. absurd (both_ways true f refl) }

-- two contents with one shape, and the same codes and counts at every place, are the same
pub contents_same : {h k : Contents} → h.shape ≡ k.shape → ((row column : ℕ) → h.code row column ≡ k.code row column) → ((row : ℕ) → h.count row ≡ k.count row) → h ≡ k
contents_same p q r i = record { shape = p i; code = λ row column. q row column i; count = λ row. r row i }

pub shape_same : {m n : ℕ} (columns : ℕ) → m ≡ n → ◌≡◌ {A = Shape} record { blocks = m; columns = columns } record { blocks = n; columns = columns }
shape_same columns e i = record { blocks = e i; columns = columns }

-- a value that is y at one place and z at every other
pub at_place : (a b c n : ℕ) (x y z : ℕ) → (a ≡ b → c < n → x ≡ y) → ((a ≡ b → c < n → ⊥) → x ≡ z) → x ≡ cond (eqb a b && ltb c n) y z
at_place a b c n x y z here else-where = cond_both (eqb a b && ltb c n) y z (λ v. x ≡ v)
    (λ t. here (eqb-true a b (and_parts _ _ t).0) (ltb-true c n (and_parts _ _ t).1))
    (λ f. else-where (λ e l. ⊎_elim (λ p. eqb-false a b p e) (λ q. let k = ltb-false c n q in omega arith) (and_cases _ _ f)))

pub at_row : (a b : ℕ) (x y z : ℕ) → (a ≡ b → x ≡ y) → ((a ≡ b → ⊥) → x ≡ z) → x ≡ cond (eqb a b) y z
at_row a b x y z here else-where = cond_both (eqb a b) y z (λ v. x ≡ v) (λ t. here (eqb-true a b t)) (λ f. else-where (eqb-false a b f))
