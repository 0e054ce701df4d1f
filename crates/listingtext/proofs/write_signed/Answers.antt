-- Below 0 the byte '-' and the size behind it, else the number.
use Rattle.std.specs.Prelude.{◌≡◌, true, false, ◌∷◌, ℕ, ◌≤◌, ℤ, pos, length, nat_abs, set}
use Rattle.std.proofs.Common.{sym, ap, ◌∙◌, arith, length-set, to_z-of_z}
use Rattle.std.specs.Int.{w64}
use Rattle.std.specs.Int.Signed.{lt_z}
use mir.Val.{SFits}
use Rattle.integers.proofs.Laws.Signed64.{rd}
use Rattle.words.proofs.Laws.Putting.{length_behind}
use Rattle.listingtext.specs.Decimal.{minus, decimal, signed_decimal}
use Rattle.listingtext.proofs.Laws.Signs.{signed_below, signed_from}
use Rattle.listingtext.proofs.Laws.Printing.{nothing, then_byte, then_text, in_part}
use Rattle.listingtext.proofs.write_signed.Goals as goal

-- the text, by the size that `magnitude` answers
module _ {z : ℤ} {size : ℕ} (f : SFits w64 z) (s : size ≡ nat_abs (rd z)) where
  below : lt_z (rd z) (pos 0) ≡ true → signed_decimal z ≡ minus ∷ decimal size
  below t = signed_below z (rw (to_z-of_z f) at t) ∙ ap (λ (n : ℕ). minus ∷ decimal n) (sym (s ∙ ap nat_abs (to_z-of_z f)))

  from : lt_z (rd z) (pos 0) ≡ false → signed_decimal z ≡ decimal size
  from t = signed_from z (rw (to_z-of_z f) at t) ∙ ap decimal (sym (s ∙ ap nat_abs (to_z-of_z f)))

pub bounds-buffer-0 : goal.bounds-buffer-0
bounds-buffer-0 c = omega (arith, ap length (below c.ranges.value c.magnitude-size.ensures c.if-value-lt0.true))

pub slice_bounds-write_number-count : goal.slice_bounds-write_number-count
slice_bounds-write_number-count c =
    omega (arith, ap length (below c.ranges.value c.magnitude-size.ensures c.if-value-lt0.true), length-set c.args.buffer.now 0 minus)

pub slice_bounds-write_number-start : goal.slice_bounds-write_number-start
slice_bounds-write_number-start c =
    omega (arith, ap length (below c.ranges.value c.magnitude-size.ensures c.if-value-lt0.true), length-set c.args.buffer.now 0 minus)

pub write_number-requires : goal.write_number-requires
write_number-requires c =
    let b = c.args.buffer.now in
    let size = ap length (below c.ranges.value c.magnitude-size.ensures c.if-value-lt0.true) in
    omega (arith, size, length_behind (set b 0 minus) 1, length-set b 0 minus)

pub returns-then-value-lt0 : goal.returns-then-value-lt0
returns-then-value-lt0 c =
    let b = c.args.buffer.now in
    let text = below c.ranges.value c.magnitude-size.ensures c.if-value-lt0.true in
    let room : length (minus ∷ decimal c.magnitude-size.result) ≤ length b = rw text at c.requires in
    let sign = then_byte (nothing b) minus (omega arith) in
    rw text (then_text sign (in_part 1 (omega (arith, length-set b 0 minus)) c.write_number.ensures))

pub write_number-requires-2 : goal.write_number-requires-2
write_number-requires-2 c = rw (from c.ranges.value c.magnitude-size.ensures c.if-value-lt0.false) at c.requires

pub returns : goal.returns
returns c = rw (from c.ranges.value c.magnitude-size.ensures c.if-value-lt0.false) c.write_number-2.ensures
