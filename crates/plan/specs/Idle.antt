-- Binding definition: "idle is the start of one integrator (start 0, quantum 1), nothing else, horizon 1", its plan.
use Rattle.std.specs.Prelude.{◌∷◌, ◌-◌, pos, replicate}
use Rattle.plan.specs.Numbers.{most_integrators, most_inputs, most_nodes, most_links, most_commands}
use Rattle.plan.specs.declared.Plan.{Plan}

abbrev pub idle_plan : Plan
idle_plan = record {
  horizon = 1;
  counts = record { n = 1; m = 0; k = 0; links = 0; commands = 0 };
  integrators = record { starts = replicate most_integrators (pos 0); quanta = pos 1 ∷ replicate (most_integrators - 1) (pos 0) };
  inputs = record { firsts = replicate most_inputs (pos 0) };
  nodes = record { kinds = replicate most_nodes 0; a = replicate most_nodes 0; b = replicate most_nodes 0; lows = replicate most_nodes (pos 0); highs = replicate most_nodes (pos 0) };
  links = record { targets = replicate most_links 0; sources = replicate most_links 0; coefficients = replicate most_links (pos 0) };
  commands = record { ticks = replicate most_commands 0; inputs = replicate most_commands 0; values = replicate most_commands (pos 0) };
}
