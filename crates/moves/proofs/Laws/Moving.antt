-- Laws: moving an integrator stores its own figures and leaves those of the others, so what is left of a mask can still be moved. Assumes
-- nothing.
use Rattle.std.specs.Prelude.{◌≡◌, List, ℕ, ◌-◌, ◌^◌, ◌<◌, ℤ, pos, ◌+ℤ◌, ◌*ℤ◌, eqb, length, set}
use Rattle.std.proofs.Math.Path.{ap}
use Rattle.std.proofs.Common.{sym, ◌∙◌, arith}
use Rattle.std.proofs.Math.Bool.{not, not-not}
use Rattle.std.proofs.Math.ListN.{length-set}
use Rattle.std.proofs.Math.Seq.{get_or-set_same, get_or-set_other}
use Rattle.std.proofs.lemmas.Bool.{eqb-false, and_parts}
use Rattle.bitset.specs.Mask.{lowest_of, rest_of}
use Rattle.bitset.proofs.Laws.Visiting.{has-lowest, has_rest}
use Rattle.plan.specs.Lists.{nat_at, int_at}
use Rattle.plan.specs.declared.Plan.{Plan}
use Rattle.machine.specs.Due.{due_tick}
use Rattle.machine.specs.declared.Motion.{Motion}
use Rattle.timing.specs.Ticks.{upper_in, lower_in}
use Rattle.moves.specs.Motion.{position_then, slope_from, due_from, after_move, Movable, AllMovable}

-- the figures of one integrator
pub record Figures : Type 0 where
  pub x : ℤ
  pub s : ℤ
  pub l : ℕ
  pub d : ℕ

abbrev pub figures_at : Motion → ℕ → Figures
figures_at m i = record { x = int_at m.x i; s = int_at m.s i; l = nat_at m.l i; d = nat_at m.d i }

-- the arrays have their full width
pub record Full (m : Motion) : Type 0 where
  pub x : length m.x ≡ 32
  pub s : length m.s ≡ 32
  pub l : length m.l ≡ 32
  pub d : length m.d ≡ 32

module _ (p : Plan) (ranges : List ℕ) (t : ℕ) (values : List ℤ) where
  abbrev move : ℕ → Motion → Motion
  move = after_move p ranges t values

  -- what the move makes of integrator i's figures
  unfoldable pub moved_figures : ℕ → Figures → Figures
  moved_figures i f =
      let xThen = f.x +ℤ f.s *ℤ pos (t - f.l) in
      record {
        x = xThen;
        s = slope_from p ranges t values i;
        l = t;
        d = due_from p ranges t values i xThen;
      }

  -- stored one by one
  pub move_stores : (j : ℕ) (m : Motion) {xThen slope : ℤ} {due : ℕ}
      → xThen ≡ position_then p ranges t values j m
      → slope ≡ slope_from p ranges t values j
      → due ≡ due_tick t xThen (upper_in values p.integrators.quanta j) (lower_in values p.integrators.quanta j) slope
      → record m { x = set m.x j xThen; s = set m.s j slope; l = set m.l j t; d = set m.d j due } ≡ move j m
  unfolding after_move due_from
  move_stores j m x s d = rw (d, x, s)

  pub move_full : (j : ℕ) (m : Motion) → Full m → Full (move j m)
  unfolding after_move
  move_full j m f = record { x = simp length-set f.x; s = simp length-set f.s; l = simp length-set f.l; d = simp length-set f.d }

  pub move-own : (j : ℕ) (m : Motion) → Full m → j < 32 → figures_at (move j m) j ≡ moved_figures j (figures_at m j)
  unfolding after_move moved_figures position_then
  move-own j m f h =
      rw (
        get_or-set_same m.x j _ (pos 0) (omega (arith, f.x)),
        get_or-set_same m.s j _ (pos 0) (omega (arith, f.s)),
        get_or-set_same m.l j _ 0 (omega (arith, f.l)),
        get_or-set_same m.d j _ 0 (omega (arith, f.d)),
      )

  pub move_others : (j i : ℕ) (m : Motion) → (i ≡ j → ⊥) → figures_at (move j m) i ≡ figures_at m i
  unfolding after_move
  move_others j i m ne =
      rw (
        get_or-set_other m.x j i _ (pos 0) ne,
        get_or-set_other m.s j i _ (pos 0) ne,
        get_or-set_other m.l j i _ 0 ne,
        get_or-set_other m.d j i _ 0 ne,
      )

  -- ---- a turn of the loop over a mask
  module _ {left : ℕ} (some : 0 < left) (wide : left < 2 ^ 32) (m : Motion)
      (all : AllMovable p ranges t values left m) where
    pub movable_lowest : Movable p ranges t values (lowest_of 32 left) m
    movable_lowest = all (lowest_of 32 left) (has-lowest 32 left some wide)

    pub movable_rest : AllMovable p ranges t values (rest_of left) (move (lowest_of 32 left) m)
    unfolding position_then
    movable_rest i h =
        let j = lowest_of 32 left in
        let both = and_parts _ _ (rw (has_rest 32 left i some wide) at h) in
        let kept = move_others j i m (eqb-false i j (sym (not-not (eqb i j)) ∙ ap not both.1)) in
        let old = all i both.0 in
        let kept-x : int_at (move j m).x i ≡ int_at m.x i = ap (λ (f : Figures). f.x) kept in
        let kept-s : int_at (move j m).s i ≡ int_at m.s i = ap (λ (f : Figures). f.s) kept in
        let kept-l : nat_at (move j m).l i ≡ nat_at m.l i = ap (λ (f : Figures). f.l) kept in
        record {
          used = old.used;
          rated = old.rated;
          position = rw (kept-x, kept-s, kept-l) old.position;
          level = old.level;
          due = rw (kept-x, kept-s, kept-l) old.due;
        }
