-- Known bytes that grow and shrink, in steps.
use Rattle.std.proofs.Common.{◌≡◌, ◌∙◌, ◌≤◌, ◌+◌, ◌-◌, ℕ, List, ◌++◌, length, take, drop, Option, refl, ap, arith, length-append, length-drop}
use Rattle.std.specs.Io.KnownBytes.{Appends, Consumes}
use Rattle.std.proofs.KnownBytes.{Appends-nil, Appends-trans, Consumes-trans}
use Rattle.host_run.specs.Streams.{TakesAtMost}
use Rattle.std.proofs.lemmas.List.{drop-drop, take_rest}
use Rattle.std.proofs.Math.Seq.{take-add, take-length}

-- the first n bytes of the text are written, and the rest is due
pub record Progress (before now : Option (List ℕ)) (text rest : List ℕ) : Type 0 where
  pub n : ℕ
  pub rest_is : rest ≡ drop n text
  pub within : n ≤ length text
  pub appended : Appends before now (take n text)

pub begin : (x : Option (List ℕ)) (text : List ℕ) → Progress x x text text
begin x text = record { n = 0; rest_is = refl; within = omega arith; appended = Appends-nil x }

pub more : (x y z : Option (List ℕ)) (text rest : List ℕ) (k : ℕ) → Progress x y text rest → k ≤ length rest → Appends y z (take k rest) → Progress x z text (drop k rest)
more x y z text rest k p le h =
    let size : length rest ≡ length text - p.n = ap length p.rest_is ∙ length-drop p.n text in
    record {
      n = p.n + k;
      rest_is = ap (drop k) p.rest_is ∙ drop-drop k p.n text;
      within = (let w = p.within in omega arith);
      appended = rw take-add (Appends-trans x y z (take p.n text) (take k (drop p.n text)) p.appended (rw p.rest_is at h));
    }

pub all : (x y : Option (List ℕ)) (text rest : List ℕ) → Progress x y text rest → length rest ≡ 0 → Appends x y text
all x y text rest p none =
    let size : length rest ≡ length text - p.n = ap length p.rest_is ∙ length-drop p.n text in
    let is : p.n ≡ length text = (let w = p.within in omega arith) in
    let whole : take p.n text ≡ text = ap (λ k. take k text) is ∙ take-length text in
    rw whole at p.appended

-- a further piece was written, by the slice past k
pub more_past : (x y z : Option (List ℕ)) (text rest : List ℕ) (k : ℕ) → Progress x y text rest → k ≤ length rest → Appends y z (take k rest)
    → Progress x z text (take (length rest - k) (drop k rest))
more_past x y z text rest k p le h = rw take_rest (more x y z text rest k p le h)

-- a read of m bytes at most, after others
pub takes_more : (x y z : Option (List ℕ)) (a b : List ℕ) (n : ℕ) → Consumes x y a → Consumes y z b → length a + length b ≤ n → TakesAtMost x z n
takes_more x y z a b n h k fits = (a ++ b, Consumes-trans x y z a b h k, rw length-append fits)
