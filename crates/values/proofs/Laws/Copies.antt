-- Laws: what is copied to the front of an array of one value makes a row of what was copied. Assumes nothing.
use Rattle.std.specs.Prelude.{◌≡◌, refl, Bool, true, false, List, ◌++◌, ℕ, ◌+◌, ◌-◌, ◌≤◌, ◌<◌, ltb, length, drop, get_or, replicate}
use Rattle.std.proofs.Math.ListN.{get_or-append}
use Rattle.std.proofs.lemmas.List.{append_assoc, drop_at, drop-replicate, ext_get_or, get_or-append_right, take_at}
use borrow.Rule.Slice.PartMut.{put_mid}
use Rattle.std.proofs.lemmas.Grind.{common_steps}
use Rattle.std.proofs.Common.{sym, ◌∙◌, arith, ltb-true, ltb-false}
use Rattle.plan.specs.Lists.{row}
use Rattle.plan.proofs.Laws.Rows.{length_row, row_at, row_unused}

pub copied : {A : Type 0} (z : A) (w k : ℕ) (ys : List A) (f : ℕ → A) → length ys ≡ k → k ≤ w → ((i : ℕ) → i < k → get_or ys i z ≡ f i)
    → ys ++ drop k (replicate w z) ≡ row z w k f
copied z w k ys f full within each = ext_get_or z _ _ (grind (arith, common_steps, length_row z w k f)) (λ i h. go i (ltb i k) refl)
  where
    go : (i : ℕ) (b : Bool) → ltb i k ≡ b → get_or (ys ++ drop k (replicate w z)) i z ≡ get_or (row z w k f) i z
    go i true e =
        let h = ltb-true i k e in
        get_or-append ys _ z i (omega arith) ∙ each i h ∙ sym (row_at z w k f i within h)
    go i false e =
        let h = ltb-false i k e in
        get_or-append_right ys _ k i z full h ∙ rw (drop-replicate k w z, row_unused z w k f i h) (grind (arith, common_steps))

-- and us copied behind ys
pub copied_behind : {A : Type 0} (z : A) (w n m : ℕ) (ys us : List A) (f : ℕ → A) → length ys ≡ n → length us ≡ m → n + m ≤ w
    → ((i : ℕ) → i < n → get_or ys i z ≡ f i) → ((j : ℕ) → j < m → get_or us j z ≡ f (n + j))
    → put_mid n (n + m - n) (ys ++ drop n (replicate w z)) us ≡ row z w (n + m) f
copied_behind z w n m ys us f first second within one two =
    whole ∙ copied z w (n + m) (ys ++ us) f (grind (arith, common_steps)) within (λ i h. go i h (ltb i n) refl)
  where
    rest : drop m (drop n (replicate w z)) ≡ drop (n + m) (replicate w z)
    rest = grind (arith, common_steps)

    more : n + m - n ≡ m
    more = omega arith

    whole : put_mid n (n + m - n) (ys ++ drop n (replicate w z)) us ≡ ys ++ us ++ drop (n + m) (replicate w z)
    whole =
        rw (more, take_at ys (drop n (replicate w z)) n first, drop_at ys (drop n (replicate w z)) n first, rest) (sym (append_assoc ys us _))

    go : (i : ℕ) → i < n + m → (b : Bool) → ltb i n ≡ b → get_or (ys ++ us) i z ≡ f i
    go i h true e = let l = ltb-true i n e in get_or-append ys us z i (omega arith) ∙ one i l
    go i h false e =
        let l = ltb-false i n e in let all : n + (i - n) ≡ i = omega arith in
        get_or-append_right ys us n i z first l ∙ two (i - n) (omega arith) ∙ rw all
