-- A putter that has put so many pairs.
use Rattle.std.proofs.Common.{◌≡◌, ℕ, length}
use Rattle.job_queue.specs.declared.jobs.Jobs.{Jobs}
use Rattle.job_queue.specs.Passes.{JobPass, IsJobPass, IsPutter, put_by}

pub record HasPut {M : Type 0} (jobs : Jobs M) (n : ℕ) (pass : JobPass M) : Type 0 where
  pub own : IsJobPass jobs pass
  pub putter : IsPutter pass
  pub count : length (put_by pass) ≡ n
