-- Proof: where each number of a file stands. Assumes nothing.
use Rattle.std.proofs.Common.{inl, inr, arith}
use Rattle.plan.proofs.Laws.FileRefusals.{accepted-sizes}
use Rattle.plan.proofs.Laws.Places.{header-places, entry-places}
use Rattle.calls.specs.Promises.Files.{EveryHeader, EveryPlace}
use Rattle.calls.proofs.Proofs.Files.{load_accepted, every_file}

pub every-header : EveryHeader
every-header = header-places

pub every-place : EveryPlace
every-place file tried =
    entry-places file
    (elim tried [ inl e ↦ accepted-sizes file (load_accepted file e) | inr h ↦ (every_file file).answered.earlier 3 h 0 (omega arith) ])
