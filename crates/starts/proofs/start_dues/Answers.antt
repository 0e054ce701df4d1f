-- The integrator's level and due tick are worked out of locals, which hold bits.
use mathlib.Core.Path.{◌≡◌, ◌∙◌}
use mathlib.Core.List.{List}
use Prim.Native.Nat.{ℕ}
use borrow.Author.Rules.{rules}
use lib.IntN.{ℤ, ◌+ℤ◌, ◌-ℤ◌}
use mir.Facts.{to_z-of_z}
use mir.Syntax.{w64}
use mir.Val.{SFits}
use Rattle.integers.proofs.Laws.Signed64.{rd}
use Rattle.plan.specs.Lists.{int_at}
use Rattle.plan.specs.declared.Integrators.{Integrators}
use Rattle.plan.proofs.Laws.Rows.{row_none, row_more}
use Rattle.machine.specs.Due.{due_tick}
use Rattle.timing.specs.Ticks.{DueReady}
use Rattle.timing.proofs.Laws.Arithmetic.{upper-read, lower-read}
use Rattle.starts.specs.Starting.{first_due, StartReady}
use Rattle.starts.proofs.start_dues.Goals as goal

pub loop-i-init : goal.loop-i-init
loop-i-init c = row_none 0 32 _

-- what the locals hold for the integrator whose turn it is, read back from their bits
module _ {integrators : Integrators} {slopes : List ℤ} {i : ℕ} (ready : StartReady integrators slopes i)
    (fs : SFits w64 (int_at integrators.starts i)) (fq : SFits w64 (int_at integrators.quanta i)) (fd : SFits w64 (int_at slopes i)) where
  abbrev start : ℤ
  start = rd (int_at integrators.starts i)

  abbrev quantum : ℤ
  quantum = rd (int_at integrators.quanta i)

  tick-ready : DueReady 0 start (rd (start +ℤ quantum)) (rd (start -ℤ quantum)) (rd (int_at slopes i))
  tick-ready = rw (upper-read ready.level fs fq, lower-read ready.level fs fq, to_z-of_z fs, to_z-of_z fd) ready.due

  tick-is : due_tick 0 start (rd (start +ℤ quantum)) (rd (start -ℤ quantum)) (rd (int_at slopes i)) ≡ first_due integrators slopes i
  tick-is = rw (upper-read ready.level fs fq, lower-read ready.level fs fq, to_z-of_z fs, to_z-of_z fd)

pub due_tick-requires : goal.due_tick-requires
due_tick-requires c = tick-ready (c.requires.1 _ c.loop-i-test.true) (search rules) (search rules) (search rules)

pub loop-i-preserved : goal.loop-i-preserved
loop-i-preserved c =
    let l = c.loop-i in
    let here = c.due_tick.ensures ∙ tick-is (c.requires.1 _ c.loop-i-test.true) (search rules) (search rules) (search rules) in
    rw (l.invariant, here) (row_more 0 32 l.i _)
