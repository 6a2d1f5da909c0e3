-- A page, place by place. Assumes nothing.
use Rattle.std.proofs.Common.{◌≡◌, ℕ, ◌<◌, cond, nat_lt, List, length, get_or, sym, ◌∙◌, arith}
use Rattle.std.proofs.lemmas.Bool.{cond_both, ltb-true, ltb-false}
use Rattle.std.proofs.lemmas.List.{ext_get_or}
use Rattle.rules.specs.declared.part.Part.{Part}
use Rattle.rules.specs.Parts.{columns}
use Rattle.rules.specs.Controls.{page_of}
use Rattle.rules.proofs.Pages.{page_at, page_long, page_beyond}

-- codes that are the row's at the part's columns, and the erased code beyond, are the page
pub page_is : (p : Part) (f : ℕ → ℕ) (e : ℕ) (codes : List ℕ) → length codes ≡ 528 → ((k : ℕ) → k < 528 → get_or codes k e ≡ cond (nat_lt k (columns p)) (f k) e)
    → codes ≡ page_of p e f
page_is p f e codes long at =
    ext_get_or e codes (page_of p e f) (long ∙ sym (page_long p e f))
    (λ k h. at k (omega (arith, h, long))
    ∙ cond_both (nat_lt k (columns p)) (f k) e (λ x. x ≡ get_or (page_of p e f) k e)
    (λ t. sym (page_at p e f k (ltb-true k (columns p) t)))
    (λ t. sym (page_beyond p e f k (ltb-false k (columns p) t))))
