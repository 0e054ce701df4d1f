-- Binding definition: "The listing program reads at most 4,493 bytes of standard input, loads them, runs lazily with budget 64 until status
-- 1 or 2, and prints each event as tick, source, value, then "end", status, clock, instants, updates (a declined plan prints "refused",
-- number, entry)": the text, for what is read.
use Rattle.std.specs.Prelude.{cond, List, ◌++◌, ℕ, ◌/◌, eqb, length}
use Rattle.plan.specs.Numbers.{event_bytes, acceptance}
use Rattle.plan.specs.declared.Plan.{Plan}
use Rattle.machine.specs.Status.{status_number, status_of}
use Rattle.machine.specs.Runs.{after_run, events_of_run}
use Rattle.machine.specs.declared.Running.{Running}
use Rattle.machine.specs.declared.Engine.TheVariants.{Lazy}
use Rattle.listingtext.specs.Lines.{lines_of, end_line, refusal_line}
use Rattle.calls.specs.Calls.{load_of}

-- "prints each event as tick, source, value": the lines of a list of events, "12 bytes each"
unfoldable pub event_lines : List ℕ → List ℕ
event_lines bytes = lines_of bytes (length bytes / event_bytes)

-- "then "end", status, clock, instants, updates"
unfoldable pub end_line_of : Plan → Running → List ℕ
end_line_of p r = end_line (status_number (status_of p r)) r.clocks.clock r.clocks.instants r.clocks.updates

-- The lines of a lazy run from r on with a budget b, and the end line of where it ends. With the horizon for a budget the run always ends with
-- status 1 or 2 (`ListingStops`), since each instant moves the clock on.
unfoldable pub listing_of_run : Plan → ℕ → Running → List ℕ
listing_of_run p b r = event_lines (events_of_run p Lazy b r) ++ end_line_of p (after_run p Lazy b r)

-- the text for a file: "a declined plan prints "refused", number, entry"
unfoldable pub listing_of : List ℕ → List ℕ
listing_of file =
    let loaded = load_of file in
    let p = loaded.state.plan in
    cond (eqb loaded.number acceptance) (listing_of_run p p.horizon loaded.state.run) (refusal_line loaded.number loaded.entry)
