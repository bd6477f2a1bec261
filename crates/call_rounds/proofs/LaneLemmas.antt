-- What the lane's steps at its retired tags say, and what a run knows of them.
use Rattle.std.proofs.Common.{◌≡◌, ◌≢◌, ◌⊎◌, inl, inr, ⊎_elim, ℕ, ◌+◌, ◌≤◌, ◌==◌, Bool, false, true≢false, List, [], ◌∷◌, ◌++◌, Option, Some, None, Ok, Err, refl, sym, ap, ◌∙◌, subst, ◌<◌, arith, cond}
use Rattle.std.specs.Prelude.{slice_get, count_by}
use Rattle.std.proofs.lemmas.Bool.{cases_eq, cases_lt}
use Rattle.std.proofs.lemmas.Bool.Decides.{nat_tests}
use Rattle.std.proofs.lemmas.List.Sums.{sum_by-append, sum_by-cons}
use Rattle.retired_tags.specs.declared.tags.RetiredTags.{RetiredTags}
use Rattle.retired_tags.specs.declared.views.TagStep.{TagStep}
use Rattle.retired_tags.specs.declared.views.TagStep.TheVariants.{RetireOr}
use Rattle.retired_tags.specs.Passes.{IsSameTagPass, TagPass, steps, trail}
use Rattle.retired_tags.specs.Steps.{HasSet, sets}
use Rattle.pool_host.specs.declared.lane.LaneAnswer.{LaneAnswer}
use Rattle.pool_host.specs.declared.lane.LaneAnswer.TheVariants as answer
use Rattle.pool_host.specs.CallWords.{host_answer, is_retired}
use Rattle.pool_host.specs.Looks.{IsDecidedBy, Looked, SetsBit, look_of, look_steps}
use Rattle.pool_model.specs.Contents.{Named}
use Rattle.module_store.specs.declared.desk.DeskCounts.{DeskCounts}
use Rattle.request_calls.specs.declared.invocation.Invocation.{Invocation}
use Rattle.request_text.specs.declared.request.Directive.{Directive}
use Rattle.request_text.specs.declared.request.Directive.TheVariants.{Call, Retire}
use Rattle.pool_limits.specs.declared.wants.Want.{Want}
use Rattle.request_text.specs.Text.{AreRequests, IsPlacedFrom}
use Rattle.run_books.specs.Entries.{AreKept, AreTagged, Entry}
use Rattle.run_books.specs.Put.{module_of}
use Rattle.run_books.specs.Lines.{Limits}
use Rattle.run_books.specs.Books.{AreEntered}
use Rattle.call_rounds.specs.Rounds.{AreKnown, AreOfOneRound, AreRetired, IsRetired}
use Rattle.run_books.proofs.BoardLemmas.{got_within}
use Rattle.run_books.proofs.EntryLemmas.{many_entries}
use Rattle.run_books.proofs.PlaceLemmas.{fewer_modules, flagged_behind, placed_retire}

abbrev sets_of : ℕ → List TagStep → ℕ
sets_of tag done = count_by (sets tag) done

sets_append : (tag : ℕ) (xs ys : List TagStep) → sets_of tag (xs ++ ys) ≡ sets_of tag xs + sets_of tag ys
sets_append tag xs ys = sum_by-append (λ (step : TagStep). cond (sets tag step) 1 0) xs ys

-- the steps of a pass that stays the same are its trail and those of the passes that were joined into it
steps_grown : (tag : ℕ) (before after : TagPass) (more : List TagStep) → IsSameTagPass before after → trail after ≡ trail before ++ more → sets_of tag (steps after) ≡ sets_of tag (steps before) + sets_of tag more
steps_grown tag before after more same grew =
    let old : sets_of tag (steps before) ≡ sets_of tag (trail before) + sets_of tag before.me.0.joined_trail = sets_append tag (trail before) before.me.0.joined_trail in
    let new : sets_of tag (steps after) ≡ sets_of tag (trail after) + sets_of tag after.me.0.joined_trail = sets_append tag (trail after) after.me.0.joined_trail in
    let joined = ap (sets_of tag) same.joined_is in
    let grown = ap (sets_of tag) grew in
    let both = sets_append tag (trail before) more in omega arith

looks_set_none : (tag other : ℕ) (look : Option Bool) → sets_of tag (look_steps other look) ≡ 0
looks_set_none tag other None = refl
looks_set_none tag other (Some read) = refl

-- a look sets no bit
pub look_sets_none : (bits : RetiredTags) (tag other : ℕ) (before after : TagPass) (look : Option Bool) → Looked bits other before after look → HasSet tag (steps after) → HasSet tag (steps before)
look_sets_none bits tag other before after look l has =
    let grown = steps_grown tag before after (look_steps other look) l.same l.step in
    let none = looks_set_none tag other look in omega arith

-- a retirement sets the bit of its module alone
pub sets_own : (bits : RetiredTags) (tag other : ℕ) (before after : TagPass) (already : Bool) → SetsBit bits other before after already → HasSet tag (steps after) → HasSet tag (steps before) ⊎ (other ≡ tag)
sets_own bits tag other before after already s has = ⊎_elim
    (λ (same : other ≡ tag). inr same)
    (λ (apart : other ≢ tag).
    let grown = steps_grown tag before after (RetireOr other already ∷ []) s.same s.step in
    let isnt : (other == tag) ≡ false = grind (arith, nat_tests) in
    let none : sets_of tag (RetireOr other already ∷ []) ≡ 0 = sum_by-cons (λ (step : TagStep). cond (sets tag step) 1 0) (RetireOr other already) [] ∙ rw isnt refl in
    inl (let h : 1 ≤ sets_of tag (steps before) = omega arith in h))
    (cases_eq other tag)

-- where the lane had not set its bit a module isn't answered Retired
pub not_retired : (tag : ℕ) (done : List TagStep) (a : LaneAnswer) → IsDecidedBy tag done (look_of (host_answer a)) → (HasSet tag done → ⊥) → is_retired a ≡ false
not_retired tag done answer.NoExport decided unset = refl
not_retired tag done answer.BadArgs decided unset = refl
not_retired tag done answer.Retired decided unset = absurd (unset (decided.0 refl))
not_retired tag done (answer.Done outcome) decided unset = refl

-- ---- the tags that are set are those of retired modules

pub retired_none : (entries : List Entry) (all : List Directive) (place : ℕ) (done : List TagStep) → done ≡ [] → AreRetired entries all place done
retired_none entries all place done none tag has = let nought : sets_of tag done ≡ 0 = ap (sets_of tag) none in absurd (let h : 1 ≤ sets_of tag done = has in omega arith)

pub retired_later : (entries entries' : List Entry) (all : List Directive) (place place' : ℕ) (done done' : List TagStep) → AreRetired entries all place done → AreKept entries entries' → place ≤ place'
    → ((tag : ℕ) → HasSet tag done' → HasSet tag done) → AreRetired entries' all place' done'
retired_later entries entries' all place place' done done' h kept order fewer tag has =
    let r = h tag (fewer tag has) in record {
      line = r.line;
      earlier = (let e = r.earlier in omega arith);
      of_module = r.of_module;
      name = r.name;
      line_is = r.line_is;
      m = r.m;
      accepted = kept r.of_module (Ok r.m) r.accepted;
      tag_is = r.tag_is;
    }

-- a module more is retired
pub retired_more : (entries : List Entry) (all : List Directive) (place of_module : ℕ) (name : List ℕ) (m : Named) (done done' : List TagStep) → AreRetired entries all place done
    → slice_get all place ≡ Some (Retire of_module name) → slice_get entries of_module ≡ Some (Ok m) → ((tag : ℕ) → HasSet tag done' → HasSet tag done ⊎ (m.tag ≡ tag)) → AreRetired entries all (place + 1) done'
retired_more entries all place of_module name m done done' h line_is accepted own tag has = ⊎_elim
    (λ (was : HasSet tag done). retired_later entries entries all place (place + 1) done done h (λ p e got. got) (omega arith) (λ t set. set) tag was)
    (λ (same : m.tag ≡ tag). record { line = place; earlier = omega arith; of_module = of_module; name = name; line_is = line_is; m = m; accepted = accepted; tag_is = same })
    (own tag has)

-- an accepted module of a call that isn't flagged has a tag that isn't set
pub unset_here : (wants : List Want) (entries : List Entry) (desk : ℕ) (all : List Directive) (from at tenant place : ℕ) (retired : Bool) (invocation : Invocation) (done : List TagStep) → AreRequests wants all
    → AreTagged entries desk → AreRetired entries all from done → from ≤ at → slice_get all at ≡ Some (Call tenant place retired invocation)
    → (e : Entry) → slice_get entries place ≡ Some e → (m : Named) → module_of e ≡ Some m → retired ≡ false → HasSet m.tag done → ⊥
unset_here wants entries desk all from at tenant place retired invocation done lawful tagged h order call (Ok named) there m is free has =
    let same : named ≡ m = cc in
    let r = h m.tag has in
    let here : slice_get entries place ≡ Some (Ok m) = there ∙ ap (λ (n : Named). Some (Ok n)) same in
    let place_is : r.of_module ≡ place = tagged.own r.of_module place r.m m r.accepted here r.tag_is in
    let line_is : slice_get all r.line ≡ Some (Retire place r.name) = r.line_is ∙ ap (λ (p : ℕ). Some (Retire p r.name)) place_is in
    let flag = flagged_behind all [] r.line at tenant place r.name retired invocation lawful.flagged (let e = r.earlier in omega arith) line_is call in
    true≢false (sym flag ∙ free)
unset_here wants entries desk all from at tenant place retired invocation done lawful tagged h order call (Err line) there m is free has = cc

-- ---- what is known

-- one of so many directives, the first, which it stands before too
pub retired_by : (entries : List Entry) (all : List Directive) (place place' tag : ℕ) → (r : IsRetired entries all place tag) → r.line < place' → IsRetired entries all place' tag
retired_by entries all place place' tag r earlier =
    record { line = r.line; earlier = earlier; of_module = r.of_module; name = r.name; line_is = r.line_is; m = r.m; accepted = r.accepted; tag_is = r.tag_is }

-- a module that is retired by the end of a round is retired by its beginning
pub retired_before_round : (entries : List Entry) (all : List Directive) (from to tag : ℕ) → AreOfOneRound all from to → IsRetired entries all to tag → IsRetired entries all from tag
retired_before_round entries all from to tag one_round r = elim (cases_lt r.line from) [
  | inl before ↦ retired_by entries all to from tag r before
  | inr behind ↦ absurd (one_round r.line r.of_module r.name behind r.earlier r.line_is)
]

-- and was entered by then
pub retired_then : (limits : Limits) (entries entries' : List Entry) (desk : DeskCounts) (all : List Directive) (place tag : ℕ) → AreEntered limits all place entries desk → AreKept entries entries'
    → IsPlacedFrom 0 all → IsRetired entries' all place tag → IsRetired entries all place tag
retired_then limits entries entries' desk all place tag entered kept placed r =
    let earlier = r.earlier in
    let among = placed_retire all 0 r.line r.of_module r.name placed r.line_is in
    let fewer = fewer_modules all r.line place (omega arith) in
    let many = many_entries limits all place entries desk entered in
    let (entry, there) = got_within entries r.of_module (omega arith) in
    record {
      line = r.line;
      earlier = r.earlier;
      of_module = r.of_module;
      name = r.name;
      line_is = r.line_is;
      m = r.m;
      accepted = there ∙ sym (kept r.of_module entry there) ∙ r.accepted;
      tag_is = r.tag_is;
    }

-- one retire line further: its module is known, and what was known still is
pub known_more : (entries : List Entry) (all : List Directive) (place of_module : ℕ) (name : List ℕ) (old new : ℕ → Type 0) → slice_get all place ≡ Some (Retire of_module name)
    → AreKnown entries all place old → ((tag : ℕ) → old tag → new tag) → ((m : Named) → slice_get entries of_module ≡ Some (Ok m) → new m.tag) → AreKnown entries all (place + 1) new
known_more entries all place of_module name old new line h still own tag r = elim (cases_lt r.line place) [
  | inl before ↦ still tag (h tag (retired_by entries all (place + 1) place tag r before))
  | inr behind ↦ (
      let earlier = r.earlier in
      let here : r.line ≡ place = omega arith in
      let both : ◌≡◌ {A = Option Directive} (Some (Retire r.of_module r.name)) (Some (Retire of_module name)) = sym r.line_is ∙ ap (slice_get all) here ∙ line in
      let same : r.of_module ≡ of_module = cc in
      subst new r.tag_is (own r.m (subst (λ (p : ℕ). slice_get entries p ≡ Some (Ok r.m)) same r.accepted))
      )
]
