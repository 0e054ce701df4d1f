-- Model of the code: each section of a plan, its rule and its unused entries together, on the arrays that the code is lent. That these are
-- document 01's soundness of a plan: Laws/SectionTests.
use Rattle.std.specs.Prelude.{Bool, ◌&&◌, List, ℕ, ℤ}
use Rattle.plan.specs.Refusals.{is_clean}
use Rattle.plan.specs.Unused.{nats_zero_from, ints_zero_from}
use Rattle.planrules.specs.Checks.{integrators_check, inputs_check, nodes_check, links_check, commands_check}

unfoldable pub integrators_kept : (n : ℕ) (starts quanta : List ℤ) → Bool
integrators_kept n starts quanta = is_clean (integrators_check n starts quanta) && ints_zero_from n starts && ints_zero_from n quanta

unfoldable pub inputs_kept : (m : ℕ) (firsts : List ℤ) → Bool
inputs_kept m firsts = is_clean (inputs_check m firsts) && ints_zero_from m firsts

-- `base` is n + m, the source number of node 0
unfoldable pub nodes_kept : (base k : ℕ) (kinds a b : List ℕ) (lows highs : List ℤ) → Bool
nodes_kept base k kinds a b lows highs =
    is_clean (nodes_check base k kinds a b lows highs)
    && nats_zero_from k kinds && nats_zero_from k a && nats_zero_from k b && ints_zero_from k lows && ints_zero_from k highs

-- `all` is n + m + k, the number of sources
unfoldable pub links_kept : (n all links : ℕ) (targets sources : List ℕ) (coefficients : List ℤ) → Bool
links_kept n all links targets sources coefficients =
    is_clean (links_check n all links targets sources coefficients)
    && nats_zero_from links targets && nats_zero_from links sources && ints_zero_from links coefficients

unfoldable pub commands_kept : (horizon m commands : ℕ) (ticks inputs : List ℕ) (values : List ℤ) → Bool
commands_kept horizon m commands ticks inputs values =
    is_clean (commands_check horizon m commands ticks inputs values)
    && nats_zero_from commands ticks && nats_zero_from commands inputs && ints_zero_from commands values
