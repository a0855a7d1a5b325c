-- What a line of a script does to a session, and what it calls for.
use Rattle.std.specs.Prelude.{◌≡◌, ℕ, zero, suc, ◌-◌, List, [], ◌∷◌, ◌++◌, Some, None, Ok, Err, vec_items, MatchBool, Option, Result}
use Rattle.std.specs.Option.{option_map}
use Rattle.std.specs.declared.alloc.Global.{Global}
use Rattle.board.specs.declared.any.AnyBoard.{AnyBoard}
use Rattle.board.specs.declared.refused.BadEntry.{BadEntry}
use Rattle.board.specs.declared.schedule.Entry.{Entry}
use Rattle.text.specs.Lines.{skipped}
use Rattle.text.specs.Words.{words}
use Rattle.script.specs.Calls.{call_of, entry_of}
use Rattle.script.specs.declared.call.Problem.{Problem}
use Rattle.script.specs.declared.call.Purpose.{Purpose}
use Rattle.script.specs.declared.call.Kind.{Kind}
use Rattle.script.specs.declared.call.Kind.TheVariants.{Switches, Schedule, Matrix}
use Rattle.script.specs.declared.call.Call.{Call}
use Rattle.script.specs.declared.call.Call.TheVariants.{Make, OfBoard, Listing as ListCall, NotOffered as NotOfferedCall}
use Rattle.session.specs.declared.answer.Answer.{Answer}
use Rattle.session.specs.declared.failure.Failure.{Failure}
use Rattle.session.specs.declared.failure.Failure.TheVariants.{NotOffered, BadEntry as BadEntryLine, MissingEntries, Line}
use Rattle.session.specs.declared.session.Waiting.{Waiting}
use Rattle.session.specs.declared.session.Session.{Session}
use Rattle.session.specs.declared.reply.Reply.{Reply}
use Rattle.session.specs.declared.reply.Reply.TheVariants.{Said, Listing}
use Rattle.session.specs.Alone.{placed, placed_reply, alone_after, answered}
use Rattle.session.specs.Boards.{switches_made, matrix_made, ScheduleMade}

-- what a line calls for, which may be nothing, or why that cannot be done
abbrev pub Outcome : Type 0
Outcome = Result (Option Reply) Failure

-- what is called for, where that can be done
abbrev pub replied : Result Reply Failure → Outcome
replied (Ok reply) = Ok (Some reply)
replied (Err failure) = Err failure

abbrev pub said : Result Answer Failure → Outcome
said (Ok answer) = Ok (Some (Said answer))
said (Err failure) = Err failure

abbrev pub fresh : Global → Session
fresh heap = record { heap = heap; alone = None; waiting = None }

-- a script that ends before the last entry of a schedule is told so
abbrev pub end_reply : Option Waiting → Outcome
end_reply (Some w) = Err MissingEntries
end_reply None = Ok None

-- the session with another board alone
abbrev pub with_alone : Session → Option AnyBoard → Session
with_alone s board = record { heap = s.heap; alone = board; waiting = s.waiting }

-- the session while it waits for entries, or for none
abbrev pub with_waiting : Session → Option Waiting → Session
with_waiting s waiting = record { heap = s.heap; alone = s.alone; waiting = waiting }

-- a board was made, or refused, for this purpose
abbrev pub Placed : Purpose → Result AnyBoard BadEntry → Session → Outcome → Session → Type 0
Placed purpose board old reply new = (reply ≡ replied (placed_reply purpose board)) × (new ≡ with_alone old (placed purpose board old.alone))

-- the entries read so far, if no line was none
abbrev pub entries_of : Waiting → Option (List Entry)
entries_of w = option_map vec_items w.entries

-- all entries are read: a line was none, or the schedule is made of them
abbrev pub AllRead : Option (List Entry) → Purpose → Session → Outcome → Session → Type 0
AllRead None purpose old reply new = (reply ≡ Err BadEntryLine) × (new ≡ old)
AllRead (Some entries) purpose old reply new = (board : Result AnyBoard BadEntry) × ScheduleMade entries board × Placed purpose board old reply new

-- with entries still to come the session waits for them
abbrev pub ReadWith : ℕ → Waiting → Session → Outcome → Session → Type 0
ReadWith zero w old reply new = AllRead (entries_of w) w.purpose old reply new
ReadWith (suc n) w old reply new = (reply ≡ Ok None) × (new ≡ with_waiting old (Some w))

abbrev pub Read : Waiting → Session → Outcome → Session → Type 0
Read w old reply new = ReadWith w.left w old reply new

-- a schedule of so many entries is begun, with none read yet
abbrev pub Begun : Purpose → ℕ → Session → Outcome → Session → Type 0
Begun purpose n old reply new = (w : Waiting) × (w.purpose ≡ purpose) × (w.left ≡ n) × (entries_of w ≡ Some []) × Read w old reply new

-- a call that makes a board
abbrev pub MadeOf : Purpose → Kind → Session → Outcome → Session → Type 0
MadeOf purpose (Switches r) old reply new = Placed purpose (switches_made r) old reply new
MadeOf purpose (Matrix keys) old reply new = Placed purpose (matrix_made keys) old reply new
MadeOf purpose (Schedule n) old reply new = Begun purpose n old reply new

-- what a call does
abbrev pub CallMade : Call → Session → Outcome → Session → Type 0
CallMade NotOfferedCall old reply new = (reply ≡ Err NotOffered) × (new ≡ old)
CallMade ListCall old reply new = (reply ≡ Ok (Some Listing)) × (new ≡ old)
CallMade (OfBoard call) old reply new = (reply ≡ said (answered call old.alone)) × (new ≡ with_alone old (alone_after call old.alone))
CallMade (Make purpose kind) old reply new = MadeOf purpose kind old reply new

-- what a line does that is no entry, by the call it asks for
abbrev pub Called : Result Call Problem → Session → Outcome → Session → Type 0
Called (Err problem) old reply new = (reply ≡ Err (Line problem)) × (new ≡ old)
Called (Ok call) old reply new = CallMade call old reply new

-- the entries once a line is read: its entry comes last, and a line that is none leaves none
abbrev pub with_entry : Result Entry Problem → Option (List Entry) → Option (List Entry)
with_entry (Ok e) (Some entries) = Some (entries ++ (e ∷ []))
with_entry (Ok e) None = None
with_entry (Err problem) entries = None

-- a line read while entries are awaited
pub record WithLine (e : Result Entry Problem) (w new : Waiting) : Type 0 where
  pub purpose : new.purpose ≡ w.purpose
  pub left : new.left ≡ w.left - 1
  pub entries_read : entries_of new ≡ with_entry e (entries_of w)

abbrev pub EntryRead : Result Entry Problem → Waiting → Session → Outcome → Session → Type 0
EntryRead e w old reply new = (w' : Waiting) × WithLine e w w' × Read w' old reply new

-- an entry where entries are awaited; where none are, it does nothing
abbrev pub EntryHeard : Option Waiting → Result Entry Problem → Session → Outcome → Session → Type 0
EntryHeard None e old reply new = (reply ≡ Ok None) × (new ≡ old)
EntryHeard (Some w) e old reply new = EntryRead e w (with_waiting old None) reply new

-- a line is an entry while entries are awaited, and a call otherwise
abbrev pub Heard : Option Waiting → List ℕ → Session → Outcome → Session → Type 0
Heard None line old reply new = Called (call_of line) old reply new
Heard (Some w) line old reply new = EntryRead (entry_of (words line)) w (with_waiting old None) reply new

-- what one line does; an empty line or a remark does nothing
abbrev pub LineRead : List ℕ → Session → Outcome → Session → Type 0
LineRead line old reply new = MatchBool (skipped line) ((reply ≡ Ok None) × (new ≡ old)) (Heard old.waiting line old reply new)
