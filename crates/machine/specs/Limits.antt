-- How far the count of cycles goes.
use Rattle.std.specs.Prelude.{ℕ, ◌-◌, ◌^◌}

-- a step may begin at this total, and a run may aim at it
abbrev pub total_limit : ℕ
total_limit = 2 ^ 40 - 16

-- no total is above this
abbrev pub total_most : ℕ
total_most = 2 ^ 40 - 5
