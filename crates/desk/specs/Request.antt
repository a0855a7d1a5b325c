-- What a line of a script does to a session, and what it calls for, where machines are at hand.
use Rattle.std.specs.Prelude.{◌≡◌, ℕ, List, Some, None, Ok, Err, MatchBool, Option, Result}
use Rattle.std.specs.Option.{option_map}
use Rattle.text.specs.Lines.{skipped}
use Rattle.text.specs.Words.{words}
use Rattle.script.specs.Calls.{entry_of}
use Rattle.script.specs.declared.call.Problem.{Problem}
use Rattle.orders.specs.Calls.{call_of}
use Rattle.orders.specs.declared.call.Order.{Order}
use Rattle.orders.specs.declared.call.Order.TheVariants as order
use Rattle.session.specs.declared.failure.Failure.{Failure}
use Rattle.session.specs.declared.failure.Failure.TheVariants.{Line}
use Rattle.session.specs.declared.session.Session.{Session}
use Rattle.session.specs.declared.session.Waiting.{Waiting}
use Rattle.session.specs.Session.{Outcome, CallMade, EntryRead, with_waiting}
use Rattle.desk.specs.declared.request.Request.{Request}
use Rattle.desk.specs.declared.request.Request.TheVariants.{OfScript, Load, OfMachine, Trace}

-- what is called for, which may be nothing, or why that cannot be done
abbrev pub Requested : Type 0
Requested = Result (Option Request) Failure

abbrev pub of_script : Outcome → Requested
of_script (Ok reply) = Ok (option_map OfScript reply)
of_script (Err failure) = Err failure

-- what a line does that is no entry, by the call it asks for
abbrev pub Called : Result Order Problem → Session → Requested → Session → Type 0
Called (Err problem) old request new = (request ≡ Err (Line problem)) × (new ≡ old)
Called (Ok order.Load) old request new = (request ≡ Ok (Some Load)) × (new ≡ old)
Called (Ok (order.OfMachine call)) old request new = (request ≡ Ok (Some (OfMachine call))) × (new ≡ old)
Called (Ok (order.Trace steps)) old request new = (request ≡ Ok (Some (Trace steps))) × (new ≡ old)
Called (Ok (order.OfScript call)) old request new = (reply : Outcome) × CallMade call old reply new × (request ≡ of_script reply)

-- a line is an entry while entries are awaited, and a call otherwise
abbrev pub Heard : Option Waiting → List ℕ → Session → Requested → Session → Type 0
Heard None line old request new = Called (call_of line) old request new
Heard (Some w) line old request new =
    (reply : Outcome) × EntryRead (entry_of (words line)) w (with_waiting old None) reply new × (request ≡ of_script reply)

-- what one line does; an empty line or a remark does nothing
abbrev pub LineRead : List ℕ → Session → Requested → Session → Type 0
LineRead line old request new = MatchBool (skipped line) ((request ≡ Ok None) × (new ≡ old)) (Heard old.waiting line old request new)
