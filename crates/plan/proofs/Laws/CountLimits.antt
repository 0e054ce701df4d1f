-- Laws: the limits of a plan's counts, each by its name. Assumes nothing.
use Rattle.std.specs.Prelude.{◌≤◌}
use Rattle.std.proofs.Common.{arith}
use Rattle.plan.specs.Tests.{count_list}
use Rattle.plan.specs.Rules.{CountsRule}
use Rattle.plan.specs.declared.Plan.{Plan}

pub record CountLimits (p : Plan) : Type 0 where
  pub n-least : 1 ≤ p.counts.n
  pub n : p.counts.n ≤ 32
  pub m : p.counts.m ≤ 8
  pub k : p.counts.k ≤ 16
  pub links : p.counts.links ≤ 256
  pub commands : p.counts.commands ≤ 64

pub count-limits : (p : Plan) → CountsRule p → CountLimits p
unfolding count_list
count-limits p h =
    record {
      n-least = (h 0 (omega arith)).0;
      n = (h 0 (omega arith)).1;
      m = (h 1 (omega arith)).1;
      k = (h 2 (omega arith)).1;
      links = (h 3 (omega arith)).1;
      commands = (h 4 (omega arith)).1;
    }
