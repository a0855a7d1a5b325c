use Rattle.std.proofs.Common.{◌≡◌, ℕ, ◌<◌, ◌≤◌, List, [], ◌∷◌, length, get_or, refl, ap, arith}
use Rattle.board.specs.declared.schedule.Entry.{Entry}
use Rattle.board.specs.Reading.{on_pins}
use Rattle.board.specs.Schedule.{ahead, calm_after, calm_before}
use Rattle.board.proofs.Entries.{no_entry, unchanged}
use Rattle.board.proofs.schedule.ScheduleBoard.quiet.Goals as goal

calm_first : (at : ℕ) (es : List Entry) → 1 ≤ length es → calm_before at es ≡ calm_after at (get_or es 0 no_entry)
calm_first at [] h = absurd (omega arith)
calm_first at (e ∷ es) h = refl

calm_none : (at : ℕ) (es : List Entry) → length es < 1 → calm_before at es ≡ 65535
calm_none at [] h = refl
calm_none at (e ∷ es) h = absurd (omega arith)

pub returns-in-empty-clause-still : goal.returns-in-empty-clause-still
returns-in-empty-clause-still c =
    let s = c.args.self.now in
    let n = ap length c.coming.ensures in
    let calm = calm_none s.at (ahead s) (omega (arith, c.in-empty.len_below)) in
    λ k h. ap on_pins (unchanged (ahead s) s.at k s.current (omega arith))

pub returns-in-len1-up-clause-still : goal.returns-in-len1-up-clause-still
returns-in-len1-up-clause-still c =
    let s = c.args.self.now in
    let n = ap length c.coming.ensures in
    let first = ap (λ es. calm_after s.at (get_or es 0 no_entry)) c.coming.ensures in
    let calm = calm_first s.at (ahead s) (omega (arith, c.in-len1-up.len_at_least)) in
    λ k h. ap on_pins (unchanged (ahead s) s.at k s.current (omega (arith, c.calm_after.ensures)))
