-- Laws: whether a buffer was long enough, and how long the file is, by what the plan writer answers. Assumes nothing.
use Rattle.std.specs.Prelude.{◌≡◌, Bool, ℕ, Some, None, leb}
use Rattle.std.proofs.Math.Path.{refl}
use Rattle.std.proofs.Math.Bool.{true, false, cond}
use Rattle.plan.specs.Encoding.{file_length}
use Rattle.plan.specs.declared.Plan.{Plan}
use Rattle.planwriter.specs.Plans.{plan_written}

module _ (p : Plan) (room : ℕ) where
  pub written-short : plan_written p room ≡ None → leb (file_length p) room ≡ false
  unfolding plan_written
  written-short e = go (leb (file_length p) room) e
    where
      go : (b : Bool) → cond b (Some (file_length p)) None ≡ None → b ≡ false
      go true e = cc
      go false e = refl

  pub written-whole : {size : ℕ} → plan_written p room ≡ Some size → (leb (file_length p) room ≡ true) × (size ≡ file_length p)
  unfolding plan_written
  written-whole {size} e = go (leb (file_length p) room) e
    where
      go : (b : Bool) → cond b (Some (file_length p)) None ≡ Some size → (b ≡ true) × (size ≡ file_length p)
      go true e = (refl, cc)
      go false e = (cc, cc)
