-- A pool in which nothing is done but a sweep.
use Rattle.std.proofs.Common.{◌≡◌, ℕ, ◌+◌, Bool, true, false, not, MatchBool, if◌then◌else◌, List, [], ◌∷◌, ◌++◌, length, map, get_or, set, refl, sym, ap, ◌∙◌, subst, arith, append_assoc, length-append, true≢false}
use Rattle.std.specs.List.{count_by, range_with_len}
use Rattle.std.proofs.Math.Seq.{get_or-append_seam, set-append_seam}
use Rattle.std.proofs.lemmas.Bool.{and_parts, not-false}
use Rattle.std.proofs.lemmas.List.Sums.{sum_by-append, sum_by-cons}
use Rattle.pool_core.specs.declared.words.StateWord.{StateWord}
use Rattle.pool_core.specs.declared.words.Target.{Target}
use Rattle.pool_core.specs.declared.events.Event.{Event}
use Rattle.pool_core.specs.declared.events.Event.TheVariants as event
use Rattle.pool_core.specs.StateWords.{bit, cold_word, free_word, held_word, is_well_formed, packed, unpacked, IsWordOf}
use Rattle.pool_core.specs.PoolCore.{PoolCore, word_at}
use Rattle.pool_core.specs.EventEffects.{core_after}
use Rattle.pool_core.specs.RefusalRules.{refusal_of}
use Rattle.pool_core.specs.Runs.{core_after_all, AllAllowed}
use Rattle.pool_core.specs.Lawful.{Lawful}
use Rattle.pool_core.proofs.LawfulSteps.{lawful_after, no_rule_broken}
use Rattle.pool_core.proofs.WordBits.{bits_say_one_word, bits_say_the_word}
use Rattle.slot_words.specs.declared.views.Operation.{Operation}
use Rattle.slot_words.specs.declared.views.Operation.TheVariants.{Load, Claim, Release, WarmDown, AwaitDown}
use Rattle.slot_words.specs.History.{all_noted}
use Rattle.slot_words.specs.Parts.{Parts}
use Rattle.decommit_batch.specs.Sweep.{finds_its_own, is_free_of, is_of_module, IsSweepPart}
use Rattle.decommit_batch.specs.SweptPools.{word_swept, SweepsAlone}
use Rattle.decommit_batch.proofs.SweepParts.{Outcome, passed_by, lost, changed, was_warm, was_awaiting, outcome_of}

-- the operation reads the slots' words and makes others of them
abbrev Acts : List StateWord → Operation → List StateWord → Type 0
Acts ws (Load n read) vs = IsWordOf read (get_or ws n cold_word) × (vs ≡ ws)
Acts ws (Claim n read) vs = IsWordOf read (get_or ws n cold_word) × MatchBool (get_or ws n cold_word).held (vs ≡ ws) (vs ≡ set ws n (held_word (get_or ws n cold_word)))
Acts ws (Release n stored) vs = (to : Target) × IsWordOf stored (free_word to) × (vs ≡ set ws n (free_word to))
Acts ws o vs = vs ≡ ws

-- so do these, one after another
abbrev AllAct : List StateWord → List Operation → List StateWord → Type 0
AllAct ws [] vs = vs ≡ ws
AllAct ws (o ∷ os) vs = (us : List StateWord) × Acts ws o us × AllAct us os vs

claims_act : (c : PoolCore) (s n : ℕ) → (b : Bool) → (word_at c n).held ≡ b
    → MatchBool (word_at c n).held ((core_after c (event.Claim s n)).words ≡ c.words) ((core_after c (event.Claim s n)).words ≡ set c.words n (held_word (word_at c n)))
claims_act c s n true e = rw e refl
claims_act c s n false e = rw e refl

releases_act : (c : PoolCore) (s n : ℕ) (to : Target) → refusal_of c (event.Release s n to) ≡ 0 → IsWordOf (packed (free_word to)) (free_word to)
releases_act c s n to may = record { packed_is = refl; well_formed = not-false (is_well_formed to) (no_rule_broken c (event.Release s n to) may).target }

-- what is noted of events that are allowed acts on the words as the events do
events_act : (c : PoolCore) (es : List Event) → Lawful c → AllAllowed c es → AllAct c.words (all_noted c es) (core_after_all c es).words
events_act c [] law may = refl
events_act c (event.Load s n ∷ es) law may = (c.words, (record { packed_is = refl; well_formed = law.words n }, refl), events_act c es law may.1)
events_act c (event.Claim s n ∷ es) law may = let e = event.Claim s n in
    ((core_after c e).words, (record { packed_is = refl; well_formed = law.words n }, claims_act c s n (word_at c n).held refl), events_act (core_after c e) es (lawful_after c e law may.0) may.1)
events_act c (event.Out s n ∷ es) law may = let e = event.Out s n in events_act (core_after c e) es (lawful_after c e law may.0) may.1
events_act c (event.Home s n ∷ es) law may = let e = event.Home s n in events_act (core_after c e) es (lawful_after c e law may.0) may.1
events_act c (event.Release s n to ∷ es) law may = let e = event.Release s n to in
    ((core_after c e).words, (to, releases_act c s n to may.0, refl), events_act (core_after c e) es (lawful_after c e law may.0) may.1)
events_act c (event.Split s t ∷ es) law may = let e = event.Split s t in events_act (core_after c e) es (lawful_after c e law may.0) may.1
events_act c (event.Join s t ∷ es) law may = let e = event.Join s t in events_act (core_after c e) es (lawful_after c e law may.0) may.1
events_act c (event.Close s ∷ es) law may = let e = event.Close s in events_act (core_after c e) es (lawful_after c e law may.0) may.1
events_act c (event.WarmLoad s ∷ es) law may = (c.words, refl, events_act c es law may.1)
events_act c (event.WarmUp s ∷ es) law may = let e = event.WarmUp s in (c.words, refl, events_act (core_after c e) es (lawful_after c e law may.0) may.1)
events_act c (event.WarmDown s ∷ es) law may = let e = event.WarmDown s in (c.words, refl, events_act (core_after c e) es (lawful_after c e law may.0) may.1)
events_act c (event.Stamp s ∷ es) law may = let e = event.Stamp s in (c.words, refl, events_act (core_after c e) es (lawful_after c e law may.0) may.1)
events_act c (event.AwaitUp s ∷ es) law may = let e = event.AwaitUp s in (c.words, refl, events_act (core_after c e) es (lawful_after c e law may.0) may.1)
events_act c (event.AwaitDown s ∷ es) law may = let e = event.AwaitDown s in (c.words, refl, events_act (core_after c e) es (lawful_after c e law may.0) may.1)
events_act c (event.AwaitLoad s ∷ es) law may = (c.words, refl, events_act c es law may.1)

-- the words between two lists of operations
between : (a b : List Operation) (ws vs : List StateWord) → AllAct ws (a ++ b) vs → (us : List StateWord) × AllAct ws a us × AllAct us b vs
between [] b ws vs acts = (ws, refl, acts)
between (o ∷ a) b ws vs acts = let later = between a b acts.0 vs acts.2 in (later.0, (acts.0, acts.1, later.1), later.2)

-- what acts on words acts on the same words
leaves : (os : List Operation) (ws us vs : List StateWord) → us ≡ ws → AllAct us os vs → AllAct ws os vs
leaves os ws us vs same acts = subst (λ (xs : List StateWord). AllAct xs os vs) same acts

module _ (front : List StateWord) (w : StateWord) (rest : List StateWord) where
  -- what is read of this slot is its word
  reads : (read : ℕ) → IsWordOf read (get_or (front ++ w ∷ rest) (length front) cold_word) → unpacked read ≡ w
  reads read is = bits_say_the_word read (get_or (front ++ w ∷ rest) (length front) cold_word) is ∙ get_or-append_seam front w rest cold_word

  -- a claim of it that finds it free makes it held
  wins : (read : ℕ) (os : List Operation) (vs : List StateWord) → w.held ≡ false → AllAct (front ++ w ∷ rest) (Claim (length front) read ∷ os) vs → AllAct (front ++ held_word w ∷ rest) os vs
  wins read os vs free acts =
      let here : get_or (front ++ w ∷ rest) (length front) cold_word ≡ w = get_or-append_seam front w rest cold_word in
      let held : acts.0 ≡ set (front ++ w ∷ rest) (length front) (held_word (get_or (front ++ w ∷ rest) (length front) cold_word)) =
      subst (λ (b : Bool). MatchBool b (acts.0 ≡ front ++ w ∷ rest) (acts.0 ≡ set (front ++ w ∷ rest) (length front) (held_word (get_or (front ++ w ∷ rest) (length front) cold_word))))
      (ap (λ (v : StateWord). v.held) here ∙ free) acts.1.1 in
      leaves os (front ++ held_word w ∷ rest) acts.0 vs
      (held ∙ ap (λ (v : StateWord). set (front ++ w ∷ rest) (length front) (held_word v)) here ∙ set-append_seam front w rest (held_word w)) acts.2

  -- its release as cold is the last
  cools : (vs : List StateWord) → AllAct (front ++ w ∷ rest) (Release (length front) (packed cold_word) ∷ []) vs → vs ≡ front ++ cold_word ∷ rest
  cools vs acts =
      let cold : free_word acts.1.0 ≡ cold_word = bits_say_one_word (packed cold_word) (free_word acts.1.0) cold_word acts.1.1 record { packed_is = refl; well_formed = refl } in
      acts.2 ∙ acts.1.2 ∙ set-append_seam front w rest (free_word acts.1.0) ∙ ap (λ (v : StateWord). front ++ v ∷ rest) cold

-- one slot of a sweep: its word is swept, and it is counted where it was free and of the module
record IsOneSwept (tag : ℕ) (front : List StateWord) (w : StateWord) (rest : List StateWord) (part : List Operation) (vs : List StateWord) : Type 0 where
  words_are : vs ≡ front ++ word_swept tag w ∷ rest
  counted : count_by (finds_its_own tag) part ≡ bit (is_free_of tag w)

module _ (tag : ℕ) (front : List StateWord) (w : StateWord) (rest : List StateWord) where
  free_as_seen : (seen : ℕ) (b : Bool) → unpacked seen ≡ w → is_free_of tag (unpacked seen) ≡ b → is_free_of tag w ≡ b
  free_as_seen seen b is free = ap (is_free_of tag) (sym is) ∙ free

  not_free : (part : List Operation) (vs : List StateWord) → is_free_of tag w ≡ false → vs ≡ front ++ w ∷ rest → count_by (finds_its_own tag) part ≡ 0 → IsOneSwept tag front w rest part vs
  not_free part vs none same no_claim = record {
    words_are = same ∙ ap (λ (b : Bool). front ++ (if b then cold_word else w) ∷ rest) (sym none);
    counted = no_claim ∙ ap bit (sym none);
  }

  was_free : (read : ℕ) (part : List Operation) (vs : List StateWord) → is_free_of tag w ≡ true → unpacked read ≡ w → vs ≡ front ++ cold_word ∷ rest
      → count_by (finds_its_own tag) part ≡ bit (is_free_of tag (unpacked read)) → IsOneSwept tag front w rest part vs
  was_free read part vs free is cold one_claim = record {
    words_are = cold ∙ ap (λ (b : Bool). front ++ (if b then cold_word else w) ∷ rest) (sym free);
    counted = one_claim ∙ ap (λ (v : StateWord). bit (is_free_of tag v)) is;
  }

  parts_of_free : is_free_of tag w ≡ true → (w.held ≡ false) × (is_of_module tag w.target ≡ true)
  parts_of_free free = let both = and_parts (not w.held) (is_of_module tag w.target) free in (by_not w.held both.0, both.1)
    where
      by_not : (b : Bool) → not b ≡ true → b ≡ false
      by_not true e = absurd (true≢false (sym e))
      by_not false e = refl

  one_slot : (part : List Operation) (vs : List StateWord) → Outcome tag (length front) part → AllAct (front ++ w ∷ rest) part vs → IsOneSwept tag front w rest part vs
  one_slot _ vs (passed_by seen other) acts =
      not_free (Load (length front) seen ∷ []) vs (free_as_seen seen false (reads front w rest seen acts.1.0) other) (acts.2 ∙ acts.1.1) refl
  one_slot _ vs (lost seen read free held) acts =
      let later = leaves (Claim (length front) read ∷ []) (front ++ w ∷ rest) acts.0 vs acts.1.1 acts.2 in
      let own = parts_of_free (free_as_seen seen true (reads front w rest seen acts.1.0) free) in
      absurd (true≢false (sym held ∙ ap (λ (v : StateWord). v.held) (reads front w rest read later.1.0) ∙ own.0))
  one_slot _ vs (changed seen read free won other) acts =
      let later = leaves (Claim (length front) read ∷ Release (length front) read ∷ []) (front ++ w ∷ rest) acts.0 vs acts.1.1 acts.2 in
      let own = parts_of_free (free_as_seen seen true (reads front w rest seen acts.1.0) free) in
      absurd (true≢false (sym own.1 ∙ ap (λ (v : StateWord). is_of_module tag v.target) (sym (reads front w rest read later.1.0)) ∙ other))
  one_slot _ vs (was_warm seen read r free won own is) acts =
      let n = length front in let rests = WarmDown r ∷ Release n (packed cold_word) ∷ [] in
      let later = leaves (Claim n read ∷ rests) (front ++ w ∷ rest) acts.0 vs acts.1.1 acts.2 in
      let seen_free : is_free_of tag w ≡ true = free_as_seen seen true (reads front w rest seen acts.1.0) free in
      let held = wins front w rest read rests vs (parts_of_free seen_free).0 later in
      let last = leaves (Release n (packed cold_word) ∷ []) (front ++ held_word w ∷ rest) held.0 vs held.1 held.2 in
      was_free read (Load n seen ∷ Claim n read ∷ rests) vs seen_free (reads front w rest read later.1.0) (cools front (held_word w) rest vs last) (omega arith)
  one_slot _ vs (was_awaiting seen read r free won own is) acts =
      let n = length front in let rests = AwaitDown r ∷ Release n (packed cold_word) ∷ [] in
      let later = leaves (Claim n read ∷ rests) (front ++ w ∷ rest) acts.0 vs acts.1.1 acts.2 in
      let seen_free : is_free_of tag w ≡ true = free_as_seen seen true (reads front w rest seen acts.1.0) free in
      let held = wins front w rest read rests vs (parts_of_free seen_free).0 later in
      let last = leaves (Release n (packed cold_word) ∷ []) (front ++ held_word w ∷ rest) held.0 vs held.1 held.2 in
      was_free read (Load n seen ∷ Claim n read ∷ rests) vs seen_free (reads front w rest read later.1.0) (cools front (held_word w) rest vs last) (omega arith)

-- all slots of a sweep from the first of the rest on
record AreSwept (tag : ℕ) (front rest : List StateWord) (done : List Operation) (vs : List StateWord) : Type 0 where
  words_are : vs ≡ front ++ map (word_swept tag) rest
  counted : count_by (finds_its_own tag) done ≡ count_by (is_free_of tag) rest

all_slots : (tag : ℕ) (rest front : List StateWord) (done : List Operation) (vs : List StateWord) → Parts (IsSweepPart tag) (range_with_len (length front) (length rest)) done
    → AllAct (front ++ rest) done vs → AreSwept tag front rest done vs
all_slots tag [] front done vs parts acts = record {
  words_are = subst (λ (os : List Operation). AllAct (front ++ []) os vs) parts acts;
  counted = ap (count_by (finds_its_own tag)) parts;
}
all_slots tag (w ∷ rest) front done vs parts acts =
    let mid = between parts.0 parts.1 (front ++ w ∷ rest) vs (subst (λ (os : List Operation). AllAct (front ++ w ∷ rest) os vs) parts.2 acts) in
    let one = one_slot tag front w rest parts.0 mid.0 (outcome_of tag (length front) parts.0 parts.3) mid.1 in
    let more = front ++ word_swept tag w ∷ [] in
    let further : length front + 1 ≡ length more = sym (length-append front (word_swept tag w ∷ [])) in
    let split : front ++ word_swept tag w ∷ rest ≡ more ++ rest = sym (append_assoc front (word_swept tag w ∷ []) rest) in
    let others = all_slots tag rest more parts.1 vs (subst (λ (k : ℕ). Parts (IsSweepPart tag) (range_with_len k (length rest)) parts.1) further parts.4)
    (leaves parts.1 (more ++ rest) mid.0 vs (one.words_are ∙ split) mid.2) in
    let whole : count_by (finds_its_own tag) done ≡ count_by (finds_its_own tag) (parts.0 ++ parts.1) = ap (count_by (finds_its_own tag)) parts.2 in
    let both : count_by (finds_its_own tag) (parts.0 ++ parts.1) ≡ count_by (finds_its_own tag) parts.0 + count_by (finds_its_own tag) parts.1 = sum_by-append (λ (o : Operation). bit (finds_its_own tag o)) parts.0 parts.1 in
    let free : count_by (is_free_of tag) (w ∷ rest) ≡ bit (is_free_of tag w) + count_by (is_free_of tag) rest = sum_by-cons (λ (v : StateWord). bit (is_free_of tag v)) w rest in
    let first = one.counted in let second = others.counted in record {
      words_are = others.words_are ∙ append_assoc front (word_swept tag w ∷ []) (map (word_swept tag) rest);
      counted = omega arith;
    }

pub sweeps_alone : SweepsAlone
sweeps_alone c es tag cleaned law may is =
    let all = all_slots tag c.words [] (all_noted c es) (core_after_all c es).words is.parts (events_act c es law may) in
    record { words_are = all.words_are; cleaned_is = is.cleaned_is ∙ all.counted }
