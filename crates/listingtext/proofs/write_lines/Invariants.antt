-- The lines of the first i events are written.
use Rattle.listingtext.specs.Lines.{lines_of}
use Rattle.listingtext.specs.Printed.{Printed}
use Rattle.listingtext.proofs.write_lines.Given as goal

abbrev pub invariant-loop-i : goal.invariant-loop-i
invariant-loop-i l = Printed (lines_of l.events l.i) l.initial.buffer l.at l.buffer
