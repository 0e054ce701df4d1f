-- The digits of the number's tenth, and the last digit behind them.
use Rattle.std.specs.Prelude.{[], ◌∷◌, ◌/◌, ◌%◌, ◌<◌, length}
use Rattle.std.proofs.Common.{ap, ◌∙◌, arith, length-append}
use Rattle.listingtext.specs.Decimal.{digit, decimal}
use Rattle.listingtext.proofs.Laws.Decimals.{decimal-one, decimal_more, decimal-some}
use Rattle.listingtext.proofs.Laws.Printing.{nothing, then_byte}
use Rattle.listingtext.proofs.+write_number.Goals as goal

pub bounds-buffer-0 : goal.bounds-buffer-0
bounds-buffer-0 t c = omega (arith, decimal-some c.args.number)

pub returns-then-number-lt10 : goal.returns-then-number-lt10
returns-then-number-lt10 t c =
    let a = c.args in
    let room : 0 < length a.buffer.now = omega (arith, decimal-some a.number) in
    rw (decimal-one a.number c.if-number-lt10.true) (then_byte (nothing a.buffer.now) (digit a.number) room)

pub write_number-front-requires : goal.write_number-front-requires
write_number-front-requires t c =
    let n = c.args.number in
    let size = ap length (decimal_more n c.if-number-lt10.false) ∙ length-append (decimal (n / 10)) (digit (n % 10) ∷ []) in
    (omega arith, omega (arith, size))

pub bounds-buffer-front : goal.bounds-buffer-front
bounds-buffer-front t c =
    let n = c.args.number in
    let size = ap length (decimal_more n c.if-number-lt10.false) ∙ length-append (decimal (n / 10)) (digit (n % 10) ∷ []) in
    omega (arith, size, c.write_number-front.ensures.size, c.write_number-front.auto.buffer)

pub returns : goal.returns
returns t c =
    let n = c.args.number in
    let more = decimal_more n c.if-number-lt10.false in
    let size = ap length more ∙ length-append (decimal (n / 10)) (digit (n % 10) ∷ []) in
    let front = c.write_number-front.ensures in
    rw more (then_byte front (digit (n % 10)) (omega (arith, size, front.size)))
