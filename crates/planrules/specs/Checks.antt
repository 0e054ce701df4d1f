-- Model of the code: what each section check finds, on the arrays of its section. These are the findings of `plan/Refusals`, of which each
-- sees its own section and the sizes that it goes by, and the contract of `check_plan` joins them to `plan_finding`. The test of entry e
-- stands before each.
use Rattle.std.specs.Prelude.{Bool, ◌&&◌, List, ℕ, ◌+◌, ℤ}
use Rattle.integers.specs.Range.{within}
use Rattle.plan.specs.Numbers.{M}
use Rattle.plan.specs.Lists.{nat_at, int_at}
use Rattle.plan.specs.Tests.{integrator_test, node_test, link_limits_test, command_limits_test, ascends_at}
use Rattle.plan.specs.Refusals.{Finding, unless, first_finding}
use Rattle.plan.specs.declared.Refusal.{Refusal}
use Rattle.plan.specs.declared.Refusal.TheVariants.{Integrator, Input, Node, Link, Command}

-- the finding of n entries, by the test of an entry and its fault
abbrev pub checked : (ℕ → Bool) → (ℕ → Refusal) → ℕ → Finding
checked test fault n = first_finding (λ e. unless (test e) (fault e)) 0 n

abbrev pub integrator_at : List ℤ → List ℤ → ℕ → Bool
integrator_at starts quanta e = integrator_test (int_at starts e) (int_at quanta e)

abbrev pub integrators_check : ℕ → List ℤ → List ℤ → Finding
integrators_check n starts quanta = checked (integrator_at starts quanta) Integrator n

abbrev pub input_at : List ℤ → ℕ → Bool
input_at firsts e = within M (int_at firsts e)

abbrev pub inputs_check : ℕ → List ℤ → Finding
inputs_check m firsts = checked (input_at firsts) Input m

-- `base` is n + m, the source number of node 0
abbrev pub node_at : (base : ℕ) (kinds a b : List ℕ) (lows highs : List ℤ) (e : ℕ) → Bool
node_at base kinds a b lows highs e =
    node_test (base + e) (nat_at kinds e) (nat_at a e) (nat_at b e) (int_at lows e) (int_at highs e)

abbrev pub nodes_check : (base k : ℕ) (kinds a b : List ℕ) (lows highs : List ℤ) → Finding
nodes_check base k kinds a b lows highs = checked (node_at base kinds a b lows highs) Node k

-- `all` is n + m + k, the number of sources
abbrev pub link_limits_at : (n all : ℕ) (targets sources : List ℕ) (coefficients : List ℤ) (e : ℕ) → Bool
link_limits_at n all targets sources coefficients e = link_limits_test n all (nat_at targets e) (nat_at sources e) (int_at coefficients e)

abbrev pub link_at : (n all : ℕ) (targets sources : List ℕ) (coefficients : List ℤ) (e : ℕ) → Bool
link_at n all targets sources coefficients e = link_limits_at n all targets sources coefficients e && ascends_at targets sources e

abbrev pub links_check : (n all links : ℕ) (targets sources : List ℕ) (coefficients : List ℤ) → Finding
links_check n all links targets sources coefficients = checked (link_at n all targets sources coefficients) Link links

abbrev pub command_limits_at : (horizon m : ℕ) (ticks inputs : List ℕ) (values : List ℤ) (e : ℕ) → Bool
command_limits_at horizon m ticks inputs values e = command_limits_test horizon m (nat_at ticks e) (nat_at inputs e) (int_at values e)

abbrev pub command_at : (horizon m : ℕ) (ticks inputs : List ℕ) (values : List ℤ) (e : ℕ) → Bool
command_at horizon m ticks inputs values e = command_limits_at horizon m ticks inputs values e && ascends_at ticks inputs e

abbrev pub commands_check : (horizon m commands : ℕ) (ticks inputs : List ℕ) (values : List ℤ) → Finding
commands_check horizon m commands ticks inputs values = checked (command_at horizon m ticks inputs values) Command commands
