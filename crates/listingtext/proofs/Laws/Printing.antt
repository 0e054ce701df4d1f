-- Laws: text that is written behind text: the steps from part to part of a line, and from line to line. Assumes nothing.
use Rattle.std.specs.Prelude.{◌≡◌, refl, List, [], ◌∷◌, ◌++◌, ℕ, suc, ◌+◌, ◌-◌, ◌≤◌, ◌<◌, length, get_or, take, drop, set}
use Rattle.std.proofs.Common.{sym, ap, ◌∙◌, append_assoc, append-nil, add-one, arith, length-append, length-drop, drop_of_length-le, length-take-le, take_all, take_at, drop_at, drop-drop, drop-cons, take-suc}
use Rattle.std.proofs.lemmas.List.{set_at}
use Rattle.words.proofs.Laws.Putting.{behind, back}
use Rattle.listingtext.specs.Printed.{Printed, PrintedAt}

-- nothing yet
pub nothing : (before : List ℕ) → Printed [] before 0 before
nothing before = record { size = refl; bytes = refl }

module _ {text before : List ℕ} {n : ℕ} {s : List ℕ} (p : Printed text before n s) where
  pub length-printed : length text ≤ length before → length s ≡ length before
  length-printed h = ap length p.bytes ∙ simp (length-append, length-drop) (omega arith)

  -- one byte more
  pub then_byte : (b : ℕ) → n < length before → Printed (text ++ b ∷ []) before (n + 1) (set s n b)
  then_byte b h =
      let e : n ≡ length text = p.size in
      let l : length text < length before = omega arith in
      let more : length (text ++ b ∷ []) ≡ length text + 1 = simp length-append (omega arith) in
      record {
        size = omega arith;
        bytes = rw (p.bytes, drop-cons before (length text) 0, more, add-one, append_assoc)
            (set_at text (get_or before (length text) 0) (drop (suc (length text)) before) b n (sym e));
      }

  -- more text from the place behind it on
  pub then_text : {more t : List ℕ} {k : ℕ} → PrintedAt n more s k t → Printed (text ++ more) before k t
  then_text {more} {t} {k} q =
      let e : n ≡ length text = p.size in
      let front : take n s ≡ text = rw p.bytes (take_at text (drop (length text) before) n (sym e)) in
      let rest : drop n s ≡ drop n before = rw (p.bytes, e) (drop_at text (drop (length text) before) (length text) refl) in
      let size : length (text ++ more) ≡ n + length more = simp length-append (omega arith) in
      record {
        size = q.size ∙ sym size;
        bytes = rw (q.bytes, front, ← drop-drop (length more) n s, rest, drop-drop, size, append_assoc);
      }

-- ---- text in the part that is lent from a place on: t is the part when it comes back
pub in_part : {text s t : List ℕ} {k : ℕ} (at : ℕ) → at ≤ length s → Printed text (behind s at) k t → PrintedAt at text s (at + k) (back s at t)
in_part {text} {s} at h q =
    let m : length (drop at s) ≤ length s - at = simp length-drop (omega arith) in
    let all = take_all (length s - at) (drop at s) m in
    let none = drop_of_length-le (drop at s) m in
    record { size = omega (arith, q.size); bytes = rw (q.bytes, all, none, append-nil, drop-drop) }

-- one byte more, from a place on
pub then_byte_at : {at : ℕ} {text s t : List ℕ} {n : ℕ} → PrintedAt at text s n t → (b : ℕ) → n < length s
    → PrintedAt at (text ++ b ∷ []) s (n + 1) (set t n b)
then_byte_at {at} {text} {s} {t} {n} p b h =
    let l : length (take at s) ≡ at = length-take-le at s (omega (arith, p.size)) in
    let size : length (take at s ++ text) ≡ at + length text = simp length-append (omega arith) in
    let front : Printed (take at s ++ text) s n t = record { size = p.size ∙ sym size; bytes = rw (size, append_assoc) p.bytes } in
    let more = then_byte front b h in
    let sizes : length ((take at s ++ text) ++ b ∷ []) ≡ at + length (text ++ b ∷ []) = simp length-append (omega arith) in
    record { size = more.size ∙ sizes; bytes = more.bytes ∙ rw sizes (simp append_assoc) }

pub length_at : {at : ℕ} {text s t : List ℕ} {n : ℕ} → PrintedAt at text s n t → at + length text ≤ length s → length t ≡ length s
length_at {at} {text} {s} p h =
    let l = length-take-le at s (omega arith) in
    ap length p.bytes ∙ simp (length-append, length-drop) (omega arith)

-- ---- the parts of a line: what is in front fits where the whole fits, and there is room for what comes next
pub front_fits : (xs ys : List ℕ) {room : ℕ} → length (xs ++ ys) ≤ room → length xs ≤ room
front_fits xs ys h = omega (arith, length-append xs ys)

pub more_fits : {text before : List ℕ} {n : ℕ} {s : List ℕ} → Printed text before n s → (more : List ℕ) → length (text ++ more) ≤ length before
    → n + length more ≤ length s
more_fits {text} p more h = omega (arith, p.size, length-append text more, length-printed p (front_fits text more h))

-- ---- byte by byte: the first i elements of a list, one more, and all
module _ (text : List ℕ) {before s : List ℕ} {i : ℕ} (p : Printed (take i text) before i s) where
  pub then_element : i < length text → i < length before → Printed (take (i + 1) text) before (i + 1) (set s i (get_or text i 0))
  then_element h l = rw (add-one, take-suc text i 0 h) (rw add-one at (then_byte p (get_or text i 0) l))

  pub whole : length text ≤ i → Printed text before i s
  whole h = rw (take_all i text h) at p
