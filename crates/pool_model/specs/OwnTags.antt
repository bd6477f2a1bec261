-- The tag under which contents are given back.
use Rattle.std.specs.Prelude.{◌≡◌, ℕ, false}
use Rattle.std.specs.Option.{option_map_or}
use Rattle.std.proofs.Common.{ap, ◌∙◌}
use Rattle.std.proofs.lemmas.Bool.{true≢false}
use Rattle.pool_core.specs.declared.words.State.{State}
use Rattle.pool_core.specs.declared.words.State.TheVariants.{Cold, Warm, Awaiting}
use Rattle.pool_core.specs.StateWords.{is_cold}
use Rattle.pool_model.specs.Contents.{Contents, owner, Matches}
use Rattle.pool_model.specs.declared.kinds.Kind.{Kind}
use Rattle.pool_model.specs.declared.kinds.Kind.TheVariants.{Instance, Memory, Table}

-- the tag of the module that contents belong to; without one 0
abbrev pub own_tag : (k : Kind) → Contents k → ℕ
own_tag k x = option_map_or (λ m. m.tag) (owner k x) 0

-- what lies under a word that is not cold belongs to the module of its tag
pub fits-own_tag : (pages : ℕ) (k : Kind) (s : State) (tag : ℕ) (x : Contents k) → is_cold s ≡ false → Matches pages k s tag x → own_tag k x ≡ tag
fits-own_tag pages k Cold tag x warm fits = absurd (true≢false warm)
fits-own_tag pages Instance Warm tag x warm fits = absurd fits
fits-own_tag pages Instance Awaiting tag x warm fits = absurd fits
fits-own_tag pages Memory Warm tag x warm (m, fresh, tag_is) = ap (λ o. option_map_or (λ n. n.tag) o 0) fresh.holds ∙ tag_is
fits-own_tag pages Memory Awaiting tag x warm (m, used, tag_is) = ap (λ o. option_map_or (λ n. n.tag) o 0) used.holds ∙ tag_is
fits-own_tag pages Table Warm tag x warm (m, is, tag_is) = ap (λ o. option_map_or (λ n. n.tag) o 0) is.0 ∙ tag_is
fits-own_tag pages Table Awaiting tag x warm (m, is, tag_is) = ap (λ o. option_map_or (λ n. n.tag) o 0) is.0 ∙ tag_is
