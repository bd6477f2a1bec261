-- What the words of a pool in use are worth: the contents of a slot that nobody holds fit its word, where each release fits.
use Rattle.std.specs.Prelude.{◌≡◌, ℕ, false, List, [], ◌∷◌, Some}
use Rattle.pool_core.specs.declared.words.State.TheVariants.{Cold, Warm, Awaiting}
use Rattle.pool_core.specs.declared.words.StateWord.{StateWord}
use Rattle.pool_core.specs.declared.events.Event.TheVariants.{Release}
use Rattle.pool_core.specs.PoolCore.{word_at}
use Rattle.pool_model.specs.Contents.{Named, Contents, owner, Matches}
use Rattle.pool_model.specs.declared.kinds.Kind.{Kind}
use Rattle.pool_model.specs.declared.kinds.Kind.TheVariants.{Table}
use Rattle.pool_model.specs.PoolMachine.{World, Machine, WorldEvent, Step, Restore, Clear, held_by, after, after_all, MayHappen, AllMayHappen, IsOpening}
use Rattle.pool_model.specs.Worlds.{Reached}

-- what lies in the slot that a seat holds
abbrev pub held_contents : Machine → (k : Kind) → ℕ → Contents k
held_contents p k s = p.contents k (held_by p k s)

-- ---- releases that fit

-- what lies in a slot that is released fits what it is released to
abbrev pub ReleaseFits : World → Machine → WorldEvent → Type 0
ReleaseFits w p (Step k (Release s n to)) = Matches w.limits.pages k to.state to.tag (p.contents k n)
ReleaseFits w p e = Unit {0}

-- each release of the list does, where it comes
abbrev pub AllReleasesFit : World → Machine → List WorldEvent → Type 0
AllReleasesFit w p [] = Unit {0}
AllReleasesFit w p (e ∷ es) = ReleaseFits w p e × AllReleasesFit w (after w p e) es

-- ---- the laws

-- under a word that is not held, contents fit what it says
abbrev pub FitsWhileFree : ℕ → (k : Kind) → StateWord → Contents k → Type 0
FitsWhileFree pages k word x = word.held ≡ false → Matches pages k word.target.state word.target.tag x

-- Whatever events came, if each release fitted, the contents of every slot that nobody holds fit its word.
abbrev pub FreeSlotsFit : Type 0
FreeSlotsFit = (w : World) (p : Machine) (es : List WorldEvent) → IsOpening w p → AllMayHappen w p es → AllReleasesFit w p es
    → (k : Kind) (n : ℕ) → FitsWhileFree w.limits.pages k (word_at ((after_all w p es).core k) n) ((after_all w p es).contents k n)

-- What was cleared may be released as cold.
abbrev pub ClearedFitsCold : Type 0
ClearedFitsCold = (w : World) (q : Machine) (k : Kind) (s tag : ℕ) (x : Contents k) → Reached w q → MayHappen w q (Clear k s x)
    → Matches w.limits.pages k Cold tag (held_contents (after w q (Clear k s x)) k s)

-- What was restored may be released as warm, under the tag of the module that it belongs to.
abbrev pub RestoredFitsWarm : Type 0
RestoredFitsWarm = (w : World) (q : Machine) (k : Kind) (s : ℕ) (m : Named) → Reached w q → MayHappen w q (Restore k s)
    → owner k (held_contents q k s) ≡ Some m → Matches w.limits.pages k Warm m.tag (held_contents (after w q (Restore k s)) k s)

-- What belongs to a module, whatever was run in it, may be released as awaiting, under the module's tag.
abbrev pub UsedFitsAwaiting : Type 0
UsedFitsAwaiting = (w : World) (q : Machine) (k : Kind) (n : ℕ) (m : Named) → Reached w q
    → owner k (q.contents k n) ≡ Some m → Matches w.limits.pages k Awaiting m.tag (q.contents k n)

-- A table that belongs to a module may be released as warm too: no run changes it.
abbrev pub TablesFitWarm : Type 0
TablesFitWarm = (w : World) (q : Machine) (n : ℕ) (m : Named) → Reached w q
    → (q.contents Table n).holds ≡ Some m → Matches w.limits.pages Table Warm m.tag (q.contents Table n)
