-- How long a worker waits whose calls find a kind full.
use Rattle.std.specs.Prelude.{ℕ, ◌+◌, ◌-◌, ◌*◌, ◌/◌, ◌^◌, Option, Some, max, min}
use Rattle.pool_host.specs.declared.answers.Answer.{Answer}
use Rattle.pool_host.specs.declared.answers.Answer.TheVariants.{Full}
use Rattle.call_jobs.specs.declared.waits.Waits.{Waits}

-- a call found its slots: the next one comes at once
abbrev pub no_wait : Waits
no_wait = record { next = 0; waited = 0 }

-- the turns of the wait after one of so many: twice as many, and one at least, but no more than a short wait has or an eighth of all that were
-- waited, whichever is more
abbrev pub longer_wait : (last waited : ℕ) → ℕ
longer_wait last waited = min (max (2 * last) 1) (max (2 ^ 18) (waited / 8))

-- one call more found a kind full; a count of turns stays at the last that it can show
abbrev pub longer : Waits → Waits
longer waits =
    let turns : ℕ = longer_wait waits.next waits.waited in
    record { next = turns; waited = min (waits.waited + turns) (2 ^ 64 - 1) }

-- the waits after a call that was answered so
abbrev pub waits_after : Waits → Option Answer → Waits
waits_after waits (Some (Full kind)) = longer waits
waits_after waits _ = no_wait
