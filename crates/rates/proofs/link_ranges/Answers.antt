-- Each turn goes on from where the search before has ended.
use mathlib.Core.Path.{◌≡◌, ◌∙◌}
use Prim.Native.Nat.{◌-◌}
use native.Mathlib.Omega.{arith}
use Rattle.plan.proofs.Laws.Rows.{row_none, row_more}
use Rattle.rates.specs.Links.{first_link}
use Rattle.rates.proofs.Laws.Ranges.{first-most, next-first}
use Rattle.rates.proofs.link_ranges.Goals as goal

pub loop-i-init : goal.loop-i-init
unfolding first_link
loop-i-init c =
    let count = c.args.count in let whole : count - 0 ≡ count = omega arith in
    record { most = omega arith; here = rw whole; stored = row_none 0 33 (first_link c.args.links.now.targets count) }

pub loop-i-preserved : goal.loop-i-preserved
loop-i-preserved c =
    let a = c.args in let l = c.loop-i in let targets = a.links.now.targets in
    let f = first_link targets a.count in
    let here : c.first_link_from-from.result ≡ f l.i = c.first_link_from-from.ensures ∙ l.invariant.here in
    record {
      most = rw here (first-most targets a.count l.i);
      here = rw here (next-first targets a.count l.i);
      stored = rw (l.invariant.stored, here) (row_more 0 33 l.i f);
    }

pub returns-2 : goal.returns-2
returns-2 c =
    let a = c.args in let l = c.loop-i in
    let f = first_link a.links.now.targets a.count in
    let here : c.first_link_from-from.result ≡ f l.i = c.first_link_from-from.ensures ∙ l.invariant.here in
    let end : l.i ≡ a.n = omega arith in
    rw (l.invariant.stored, here, end) (row_more 0 33 a.n f)
