-- Lists of rows with padding.
use Rattle.std.proofs.Common.{◌≡◌, ℕ, ◌+◌, ◌*◌, ◌%◌, ◌<◌, ◌≤◌, List, [], ◌∷◌, ◌++◌, length, get_or, sym, ◌∙◌, ap, subst, ⊎_elim, length-append, arith}
use Rattle.std.proofs.Math.ListN.{get_or-append}
use Rattle.std.proofs.Math.Seq.{get_or-append_seam}
use Rattle.std.proofs.lemmas.Bool.{cases_lt}
use Rattle.std.proofs.lemmas.Nat.{mod-mul-add}

-- ys is xs and e. Each element of xs that stands at or past w in its row of s is b; if e does, it is b. So it is with ys.
pub padded-push : {A : Type 0} (xs ys : List A) (e b : A) (w s c x : ℕ)
    → ys ≡ xs ++ e ∷ [] → length xs ≡ c * s + x → x < s → (w ≤ x → e ≡ b)
    → ((k : ℕ) → k < length xs → w ≤ k % s → (d : A) → get_or xs k d ≡ b)
    → (k : ℕ) → k < length ys → w ≤ k % s → (d : A) → get_or ys k d ≡ b
padded-push xs ys e b w s c x grown len below last before k h at d =
    let room : length ys ≡ length xs + 1 = ap length grown ∙ length-append xs (e ∷ []) in
    rw grown (⊎_elim (λ old. get_or-append xs (e ∷ []) d k old ∙ before k old at d)
    (λ new. let same : length xs ≡ k = omega (arith, new, room) in
    let place : k % s ≡ x = ap (λ n. n % s) (sym same ∙ len) ∙ mod-mul-add c s x below in
    subst (λ n. get_or (xs ++ e ∷ []) n d ≡ b) same
    (get_or-append_seam xs e [] d ∙ last (omega (arith, at, place))))
    (cases_lt k (length xs)))
