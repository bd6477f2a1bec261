-- The entries of the module lines.
use Rattle.std.proofs.Common.{◌≡◌, ◌⊎◌, inl, inr, ⊎_elim, true, false, cond, ℕ, zero, suc, ◌+◌, ◌<◌, ◌≤◌, List, [], ◌∷◌, ◌++◌, Some, Ok, Err, length, take, drop, take-append-drop, refl, sym, ap, ◌∙◌, subst, arith, append-nil, length-append}
use Rattle.std.proofs.lemmas.List.Elements.{filter_map-append}
use Rattle.std.proofs.lemmas.List.Recursion.{is_count_by}
use Rattle.std.proofs.lemmas.Option.{same_Some, slice_get_within}
use Rattle.std.specs.Prelude.{Result, IfErr, IfOk, OnErr, slice_get}
use Rattle.std.specs.List.{count_by}
use Rattle.wasm_values.specs.declared.outcome.NoMemory.{NoMemory}
use Rattle.wasm_spec.specs.Loading as loading
use Rattle.wasm_spec.specs.Loading.{Loads}
use Rattle.pool_limits.specs.Limits.{demand_of}
use Rattle.initial_image.specs.Segments.{extent_of}
use Rattle.pool_model.specs.Contents.{Named}
use Rattle.module_store.specs.Faults.{IsRefusal}
use Rattle.module_store.specs.declared.desk.DeskCounts.{DeskCounts}
use Rattle.module_store.specs.declared.fault.LoadFault.{LoadFault}
use Rattle.module_store.specs.declared.fault.LoadFault.TheVariants as fault
use Rattle.request_text.specs.declared.request.Directive.{Directive}
use Rattle.request_text.specs.declared.request.Directive.TheVariants.{Module, Call, Retire}
use Rattle.report_text.specs.declared.report.ModuleLine.{ModuleLine}
use Rattle.request_text.specs.Text.{module_bytes, module_names, modules_of}
use Rattle.run_books.specs.Lines.{Limits}
use Rattle.run_books.specs.Entries.{AreEntries, AreKept, AreTagged, Entry, IsEntered, IsEntry, IsEntryOf, TakesTag, is_module}
use Rattle.run_books.specs.Books.{AreEntered}
use Rattle.request_text.proofs.PlaceLemmas.{slice_get-append}
use Rattle.run_books.proofs.PlaceLemmas.{module_counts, modules_next, no_module}

-- what became of a module is its entry
pub entry_of_loaded : (limits : Limits) (bytes : List ℕ) (loaded : Result Named LoadFault) (r : Result Entry NoMemory) → IfOk loaded (λ named. Loads limits.profile bytes limits.load (Ok named.tree))
    → IfErr loaded (IsRefusal limits.profile bytes limits.load) → IsEntryOf loaded r → IfOk r (IsEntry limits bytes)
entry_of_loaded limits bytes (Ok named) r loads h is = rw is loads
entry_of_loaded limits bytes (Err fault.TooMany) r loads h is = absurd is
entry_of_loaded limits bytes (Err fault.Malformed) r loads h is = rw is (loading.Malformed, h, refl)
entry_of_loaded limits bytes (Err fault.Unsupported) r loads h is = rw is (loading.Unsupported, h, refl)
entry_of_loaded limits bytes (Err fault.Invalid) r loads h is = rw is (loading.Invalid, h, refl)
entry_of_loaded limits bytes (Err (fault.OverLimit over)) r loads h is = rw is (loading.OverLimit (demand_of over), h, refl)
entry_of_loaded limits bytes (Err (fault.Segment misfit)) r loads h is = rw is (loading.Segment (extent_of misfit), h, refl)
entry_of_loaded limits bytes (Err fault.NoMemory) (Ok entry) loads h is = let wanting : false ≡ true = is in cc
entry_of_loaded limits bytes (Err fault.NoMemory) (Err wanting) loads h is = tt

-- ---- entries in a list

pub length-entries : (limits : Limits) (modules : List (List ℕ)) (entries : List Entry) → AreEntries limits modules entries → length entries ≡ length modules
length-entries limits [] [] h = refl
length-entries limits [] (e ∷ entries) h = absurd h
length-entries limits (b ∷ modules) [] h = absurd h
length-entries limits (b ∷ modules) (e ∷ entries) h = ap suc (length-entries limits modules entries h.1)

pub entry_at : (limits : Limits) (modules : List (List ℕ)) (entries : List Entry) (i : ℕ) (bytes : List ℕ) (e : Entry) → AreEntries limits modules entries
    → slice_get modules i ≡ Some bytes → slice_get entries i ≡ Some e → IsEntry limits bytes e
entry_at limits [] entries i bytes e h got is = cc
entry_at limits (b ∷ modules) [] i bytes e h got is = absurd h
entry_at limits (b ∷ modules) (f ∷ entries) zero bytes e h got is =
    let same : b ≡ bytes = cc in
    let this : f ≡ e = cc in
    rw (← this, ← same) h.0
entry_at limits (b ∷ modules) (f ∷ entries) (suc i) bytes e h got is = entry_at limits modules entries i bytes e h.1 got is

pub entry_there : (limits : Limits) (modules : List (List ℕ)) (entries : List Entry) (i : ℕ) (bytes : List ℕ) → AreEntries limits modules entries
    → slice_get modules i ≡ Some bytes → i < length entries
entry_there limits modules entries i bytes h got = omega (arith, length-entries limits modules entries h, slice_get_within modules i bytes got)

-- one more
entries_more : (limits : Limits) (modules : List (List ℕ)) (entries : List Entry) (bytes : List ℕ) (e : Entry) → AreEntries limits modules entries → IsEntry limits bytes e
    → AreEntries limits (modules ++ bytes ∷ []) (entries ++ e ∷ [])
entries_more limits [] [] bytes e h is = (is, tt)
entries_more limits [] (f ∷ entries) bytes e h is = absurd h
entries_more limits (b ∷ modules) [] bytes e h is = absurd h
entries_more limits (b ∷ modules) (f ∷ entries) bytes e h is = (h.0, entries_more limits modules entries bytes e h.1 is)

-- ---- places in a list with one more

-- it is one of the others, or the last
there_or_last : {A : Type 0} (xs : List A) (y : A) (i : ℕ) (x : A) → slice_get (xs ++ y ∷ []) i ≡ Some x → (slice_get xs i ≡ Some x) ⊎ ((i ≡ length xs) × (y ≡ x))
there_or_last [] y zero x got = inr (refl, same_Some y x got)
there_or_last [] y (suc i) x got = cc
there_or_last (z ∷ xs) y zero x got = inl got
there_or_last (z ∷ xs) y (suc i) x got = ⊎_elim
    (λ (there : slice_get xs i ≡ Some x). inl there)
    (λ (last : (i ≡ length xs) × (y ≡ x)). inr (ap suc last.0, last.1))
    (there_or_last xs y i x got)

-- ---- tags

no_entry : (line : ModuleLine) (m : Named) → ◌≡◌ {A = Entry} (Err line) (Ok m) → ⊥
no_entry line m same = cc

tagged_more : (entries : List Entry) (e : Entry) (desk desk' : ℕ) → AreTagged entries desk → TakesTag desk desk' e → AreTagged (entries ++ e ∷ []) desk'
tagged_more entries (Ok named) desk desk' h (tag_is, next) =
    let longer = length-append entries (Ok named ∷ []) in record {
      few = (let f = h.few in omega arith);
      given = λ place m got. ⊎_elim
          (λ (there : slice_get entries place ≡ Some (Ok m)). let g = h.given place m there in omega arith)
          (λ (last : (place ≡ length entries) × (◌≡◌ {A = Entry} (Ok named) (Ok m))). let same : named ≡ m = cc in let t : m.tag ≡ desk = subst (λ (n : Named). n.tag ≡ desk) same tag_is in omega arith)
          (there_or_last entries (Ok named) place (Ok m) got);
      own = λ i j m n got_i got_j same_tag. ⊎_elim
          (λ (there : slice_get entries i ≡ Some (Ok m)). ⊎_elim
          (λ (there' : slice_get entries j ≡ Some (Ok n)). h.own i j m n there there' same_tag)
          (λ (last : (j ≡ length entries) × (◌≡◌ {A = Entry} (Ok named) (Ok n))).
          let same : named ≡ n = cc in let t : n.tag ≡ desk = subst (λ (x : Named). x.tag ≡ desk) same tag_is in let g = h.given i m there in absurd (omega arith))
          (there_or_last entries (Ok named) j (Ok n) got_j))
          (λ (last : (i ≡ length entries) × (◌≡◌ {A = Entry} (Ok named) (Ok m))). ⊎_elim
          (λ (there' : slice_get entries j ≡ Some (Ok n)).
          let same : named ≡ m = cc in let t : m.tag ≡ desk = subst (λ (x : Named). x.tag ≡ desk) same tag_is in let g = h.given j n there' in absurd (omega arith))
          (λ (last' : (j ≡ length entries) × (◌≡◌ {A = Entry} (Ok named) (Ok n))). last.0 ∙ sym last'.0)
          (there_or_last entries (Ok named) j (Ok n) got_j))
          (there_or_last entries (Ok named) i (Ok m) got_i);
    }
tagged_more entries (Err line) desk desk' h same =
    let longer = length-append entries (Err line ∷ []) in record {
      few = (let f = h.few in omega arith);
      given = λ place m got. ⊎_elim
          (λ (there : slice_get entries place ≡ Some (Ok m)). let g = h.given place m there in omega arith)
          (λ (last : (place ≡ length entries) × (◌≡◌ {A = Entry} (Err line) (Ok m))). absurd (no_entry line m last.1))
          (there_or_last entries (Err line) place (Ok m) got);
      own = λ i j m n got_i got_j same_tag. ⊎_elim
          (λ (there : slice_get entries i ≡ Some (Ok m)). ⊎_elim
          (λ (there' : slice_get entries j ≡ Some (Ok n)). h.own i j m n there there' same_tag)
          (λ (last : (j ≡ length entries) × (◌≡◌ {A = Entry} (Err line) (Ok n))). absurd (no_entry line n last.1))
          (there_or_last entries (Err line) j (Ok n) got_j))
          (λ (last : (i ≡ length entries) × (◌≡◌ {A = Entry} (Err line) (Ok m))). absurd (no_entry line m last.1))
          (there_or_last entries (Err line) i (Ok m) got_i);
    }

-- the entry of what was loaded takes the tag that the module has
pub tag_taken : (before after : ℕ) (loaded : Result Named LoadFault) (r : Result Entry NoMemory) → IfOk loaded (λ m. (m.tag ≡ before) × (after ≡ before + 1)) → OnErr loaded (after ≡ before)
    → IsEntryOf loaded r → IfOk r (TakesTag before after)
tag_taken before after (Ok named) r took same is = rw is took
tag_taken before after (Err fault.TooMany) r took same is = absurd is
tag_taken before after (Err fault.Malformed) r took same is = rw is same
tag_taken before after (Err fault.Unsupported) r took same is = rw is same
tag_taken before after (Err fault.Invalid) r took same is = rw is same
tag_taken before after (Err (fault.OverLimit over)) r took same is = rw is same
tag_taken before after (Err (fault.Segment misfit)) r took same is = rw is same
tag_taken before after (Err fault.NoMemory) (Ok entry) took same is = let wanting : false ≡ true = is in cc
tag_taken before after (Err fault.NoMemory) (Err wanting) took same is = tt

-- who keeps the desk keeps its count
pub desk_kept : (after before : DeskCounts) (loaded : Result Named LoadFault) → OnErr loaded (after ≡ before) → OnErr loaded (after.registered ≡ before.registered)
desk_kept after before (Ok named) same = same
desk_kept after before (Err fault) same = ap (λ (d : DeskCounts). d.registered) same

-- ---- entries of the directives before a place

pub element_below : (modules : List (List ℕ)) (i : ℕ) → i < length modules → (b : List ℕ) × (slice_get modules i ≡ Some b)
element_below [] i lt = absurd (omega arith)
element_below (b ∷ modules) zero lt = (b, refl)
element_below (b ∷ modules) (suc i) lt = element_below modules i (omega arith)

-- as many modules as module lines
module_or_not : (d : Directive) (ds : List Directive) → length (modules_of (d ∷ ds)) ≡ cond (is_module d) (1 + length (modules_of ds)) (length (modules_of ds))
module_or_not (Module name bytes) ds = omega arith
module_or_not (Call tenant place retired invocation) ds = refl
module_or_not (Retire place name) ds = refl

pub module_count : (ds : List Directive) → count_by is_module ds ≡ length (modules_of ds)
module_count ds = sym (is_count_by (λ (all : List Directive). length (modules_of all)) is_module refl module_or_not ds)

-- as many modules as names
pub same_many : (ds : List Directive) → length (module_names ds) ≡ length (modules_of ds)
same_many [] = refl
same_many (Module name bytes ∷ ds) = ap suc (same_many ds)
same_many (Call tenant place retired invocation ∷ ds) = same_many ds
same_many (Retire place name ∷ ds) = same_many ds

module _ (limits : Limits) (all : List Directive) where
  module_of_front : (at place : ℕ) (bytes : List ℕ) → slice_get (modules_of (take at all)) place ≡ Some bytes → slice_get (modules_of all) place ≡ Some bytes
  module_of_front at place bytes got =
      let both : modules_of all ≡ modules_of (take at all) ++ modules_of (drop at all) = ap modules_of (sym (take-append-drop at all)) ∙ filter_map-append module_bytes (take at all) (drop at all) in
      ap (λ (ms : List (List ℕ)). slice_get ms place) both ∙ slice_get-append (modules_of (take at all)) (modules_of (drop at all)) place bytes got

  pub entered_none : (desk : DeskCounts) → desk.registered ≡ 0 → length (modules_of all) ≤ desk.most → AreEntered limits all 0 [] desk
  entered_none desk none room = record {
    are = tt;
    tagged = record { few = omega arith; given = λ place m got. cc; own = λ i j m n got_i got_j same. cc };
    room = room;
  }

  module _ (at : ℕ) (entries : List Entry) (desk : DeskCounts) (h : AreEntered limits all at entries desk) where
    pub many_entries : length entries ≡ length (modules_of (take at all))
    many_entries = length-entries limits (modules_of (take at all)) entries h.are

    -- there is room for a module line
    pub room_for_module : (name bytes : List ℕ) → slice_get all at ≡ Some (Module name bytes) → desk.registered < desk.most
    room_for_module name bytes got =
        let one = module_counts all at name bytes got in
        let room = h.room in
        let t = h.tagged.few in omega (arith, many_entries)

    pub entered_module : (name bytes : List ℕ) (entries' : List Entry) (desk' : DeskCounts) → slice_get all at ≡ Some (Module name bytes) → IsEntered limits bytes entries desk entries' desk'
        → AreEntered limits all (at + 1) entries' desk'
    entered_module name bytes entries' desk' got e =
        let more : modules_of (take (at + 1) all) ≡ modules_of (take at all) ++ bytes ∷ [] = modules_next all at (Module name bytes) got in
        subst (λ (es : List Entry). AreEntered limits all (at + 1) es desk') (sym e.after_is)
        (record { are = rw more (entries_more limits (modules_of (take at all)) entries bytes e.entry h.are e.is_entry); tagged = tagged_more entries e.entry desk.registered desk'.registered h.tagged e.tag; room = rw e.most h.room })

    pub entered_other : (d : Directive) → slice_get all at ≡ Some d → ((name bytes : List ℕ) → d ≡ Module name bytes → ⊥) → AreEntered limits all (at + 1) entries desk
    entered_other d got other =
        let same : modules_of (take (at + 1) all) ≡ modules_of (take at all) =
        modules_next all at d got ∙ (ap (λ (more : List (List ℕ)). modules_of (take at all) ++ more) (no_module d other) ∙ append-nil (modules_of (take at all))) in
        record { are = rw same h.are; tagged = h.tagged; room = h.room }

    -- what the entry of a module before the place is of
    pub entry_of_place : (place : ℕ) (e : Entry) → slice_get entries place ≡ Some e → (bytes : List ℕ) × (slice_get (modules_of all) place ≡ Some bytes) × IsEntry limits bytes e
    entry_of_place place e got =
        let within : place < length (modules_of (take at all)) = let w = slice_get_within entries place e got in omega (arith, many_entries) in
        let (bytes, there) = element_below (modules_of (take at all)) place within in
        (bytes, module_of_front at place bytes there, entry_at limits (modules_of (take at all)) entries place bytes e h.are there got)

-- ---- kept entries

pub kept_all : (entries : List Entry) → AreKept entries entries
kept_all entries place e got = got

pub kept_more : (limits : Limits) (bytes : List ℕ) (first before after : List Entry) (desk desk' : DeskCounts) → AreKept first before → IsEntered limits bytes before desk after desk' → AreKept first after
kept_more limits bytes first before after desk desk' h e place x got = ap (λ (es : List Entry). slice_get es place) e.after_is ∙ slice_get-append before (e.entry ∷ []) place x (h place x got)
