-- The directives before a place in a file, and those from one place up to another.
use Rattle.std.proofs.Common.{◌≡◌, ℕ, zero, suc, ◌+◌, ◌-◌, ◌<◌, ◌≤◌, Bool, true, List, [], ◌∷◌, ◌++◌, Some, length, get_or, drop, take, take_all, take-append-drop, take-take, refl, sym, ap, ◌∙◌, subst, arith, drop-cons, length-append, cond}
use Rattle.std.specs.Prelude.{slice_get}
use Rattle.std.proofs.lemmas.Option.{get_or_from_slice_get, same_Some, slice_get_read, slice_get_within}
use Rattle.std.proofs.lemmas.List.{drop-take, take_more}
use Rattle.std.proofs.lemmas.List.Elements.{Contains-append_right, filter_map-append}
use Rattle.std.proofs.lemmas.List.Sums.{sum_by-append, sum_by-cons}
use Rattle.std.specs.List.{Contains}
use Rattle.request_calls.specs.declared.invocation.Invocation.{Invocation}
use Rattle.request_text.specs.declared.request.Directive.{Directive}
use Rattle.request_text.specs.declared.request.Directive.TheVariants.{Module, Call, Retire}
use Rattle.request_text.specs.Text.{AreFlagged, IsPlacedFrom, call_count, is_call, module_bytes, modules_of}
use Rattle.run_books.specs.Collected.{call_at}

abbrev Directives : Type 0
Directives = List Directive

pub call_count-module : (name bytes : List ℕ) (ds : Directives) → call_count (Module name bytes ∷ ds) ≡ call_count ds
call_count-module name bytes ds =
    let count : call_count (Module name bytes ∷ ds) ≡ 0 + call_count ds = sum_by-cons (λ x. cond (is_call x) 1 0) (Module name bytes) ds in omega arith

pub call_count-retire : (place : ℕ) (name : List ℕ) (ds : Directives) → call_count (Retire place name ∷ ds) ≡ call_count ds
call_count-retire place name ds =
    let count : call_count (Retire place name ∷ ds) ≡ 0 + call_count ds = sum_by-cons (λ x. cond (is_call x) 1 0) (Retire place name) ds in omega arith

pub call_count-call : (tenant place : ℕ) (retired : Bool) (invocation : Invocation) (ds : Directives) → call_count (Call tenant place retired invocation ∷ ds) ≡ 1 + call_count ds
call_count-call tenant place retired invocation ds = sum_by-cons (λ x. cond (is_call x) 1 0) (Call tenant place retired invocation) ds

-- a directive that is no call adds none
pub no_call : (d : Directive) → ((tenant place : ℕ) (retired : Bool) (invocation : Invocation) → d ≡ Call tenant place retired invocation → ⊥) → call_count (d ∷ []) ≡ 0
no_call (Module name bytes) other = call_count-module name bytes []
no_call (Call tenant place retired invocation) other = absurd (other tenant place retired invocation refl)
no_call (Retire place name) other = call_count-retire place name []

-- and one that is no module line no module
pub no_module : (d : Directive) → ((name bytes : List ℕ) → d ≡ Module name bytes → ⊥) → modules_of (d ∷ []) ≡ []
no_module (Module name bytes) other = absurd (other name bytes refl)
no_module (Call tenant place retired invocation) other = refl
no_module (Retire place name) other = refl

-- ---- the first of the directives that are left

pub drop_got : {A : Type 0} (xs : List A) (n : ℕ) (x : A) → slice_get xs n ≡ Some x → drop n xs ≡ x ∷ drop (n + 1) xs
drop_got {A = A} xs n x got =
    let one : suc n ≡ n + 1 = omega arith in
    drop-cons xs n x (slice_get_within xs n x got) ∙ ap (λ (y : A). y ∷ drop (suc n) xs) (get_or_from_slice_get xs n x x got) ∙ ap (λ (k : ℕ). x ∷ drop k xs) one

take_got : {A : Type 0} (xs : List A) (n : ℕ) (x : A) → slice_get xs n ≡ Some x → take (n + 1) xs ≡ take n xs ++ x ∷ []
take_got {A = A} xs n x got = take_more xs n x (slice_get_within xs n x got) ∙ ap (λ (y : A). take n xs ++ y ∷ []) (get_or_from_slice_get xs n x x got)

got_before : {A : Type 0} (xs : List A) (to n : ℕ) (x : A) → n < to → slice_get xs n ≡ Some x → slice_get (take to xs) n ≡ Some x
got_before xs zero n x before got = absurd (omega arith)
got_before [] (suc to) n x before got = cc
got_before (y ∷ xs) (suc to) zero x before got = got
got_before (y ∷ xs) (suc to) (suc n) x before got = got_before xs to n x (omega arith) got

got_in : {A : Type 0} (xs : List A) (to n : ℕ) (x : A) → slice_get (take to xs) n ≡ Some x → slice_get xs n ≡ Some x
got_in xs zero n x got = cc
got_in [] (suc to) n x got = cc
got_in (y ∷ xs) (suc to) zero x got = got
got_in (y ∷ xs) (suc to) (suc n) x got = got_in xs to n x got

pub part_got : {A : Type 0} (xs : List A) (n to : ℕ) (x : A) → n < to → slice_get xs n ≡ Some x → drop n (take to xs) ≡ x ∷ drop (n + 1) (take to xs)
part_got xs n to x before got = drop_got (take to xs) n x (got_before xs to n x before got)

drop_nil : (A : Type 0) (n : ℕ) → ◌≡◌ {A = List A} (drop n []) []
drop_nil A zero = refl
drop_nil A (suc n) = refl

pub part_none : {A : Type 0} (xs : List A) (n to : ℕ) → to ≤ n → drop n (take to xs) ≡ []
part_none {A = A} xs n zero past = drop_nil A n
part_none [] zero (suc to) past = absurd (omega arith)
part_none [] (suc n) (suc to) past = refl
part_none (x ∷ xs) zero (suc to) past = absurd (omega arith)
part_none (x ∷ xs) (suc n) (suc to) past = part_none xs n to (omega arith)

pub got_item : {A : Type 0} (xs : List A) (i : ℕ) (x : A) → i < length xs → x ≡ get_or xs i x → slice_get xs i ≡ Some x
got_item xs i x lt is = slice_get_read xs (length xs) i x refl lt is

pub slice_is_part : {A : Type 0} (xs : List A) (from to : ℕ) → from ≤ to → take (to - from) (drop from xs) ≡ drop from (take to xs)
slice_is_part {A = A} xs from to order =
    let both : from + (to - from) ≡ to = omega arith in
    sym (drop-take from (to - from) xs) ∙ ap (λ (n : ℕ). drop from (take n xs)) both

-- ---- modules and calls before a place

module _ (ds : Directives) where
  pub modules_next : (at : ℕ) (d : Directive) → slice_get ds at ≡ Some d → modules_of (take (at + 1) ds) ≡ modules_of (take at ds) ++ modules_of (d ∷ [])
  modules_next at d got = ap modules_of (take_got ds at d got) ∙ filter_map-append module_bytes (take at ds) (d ∷ [])

  pub calls_next : (at : ℕ) (d : Directive) → slice_get ds at ≡ Some d → call_count (take (at + 1) ds) ≡ call_count (take at ds) + call_count (d ∷ [])
  calls_next at d got = ap call_count (take_got ds at d got) ∙ sum_by-append (λ x. cond (is_call x) 1 0) (take at ds) (d ∷ [])

  front_and_rest : (from to : ℕ) → from ≤ to → take to ds ≡ take from ds ++ drop from (take to ds)
  front_and_rest from to order = sym (take-append-drop from (take to ds)) ∙ ap (λ (xs : Directives). xs ++ drop from (take to ds)) (take-take from to ds order)

  pub calls_part : (from to : ℕ) → from ≤ to → call_count (take to ds) ≡ call_count (take from ds) + call_count (drop from (take to ds))
  calls_part from to order = ap call_count (front_and_rest from to order) ∙ sum_by-append (λ x. cond (is_call x) 1 0) (take from ds) (drop from (take to ds))

  pub modules_part : (from to : ℕ) → from ≤ to → modules_of (take to ds) ≡ modules_of (take from ds) ++ modules_of (drop from (take to ds))
  modules_part from to order = ap modules_of (front_and_rest from to order) ∙ filter_map-append module_bytes (take from ds) (drop from (take to ds))

  pub fewer_modules : (from to : ℕ) → from ≤ to → length (modules_of (take from ds)) ≤ length (modules_of (take to ds))
  fewer_modules from to order =
      let all = ap length (modules_part from to order) in
      let both = length-append (modules_of (take from ds)) (modules_of (drop from (take to ds))) in omega arith

  pub fewer_calls : (from to : ℕ) → from ≤ to → call_count (take from ds) ≤ call_count (take to ds)
  fewer_calls from to order = let all = calls_part from to order in omega arith

  pub all_calls : call_count (take (length ds) ds) ≡ call_count ds
  all_calls = ap call_count (take_all (length ds) ds (omega arith))

  pub all_modules : modules_of (take (length ds) ds) ≡ modules_of ds
  all_modules = ap modules_of (take_all (length ds) ds (omega arith))

  -- a call is one of those before a later place
  pub call_room : (at to tenant place : ℕ) (retired : Bool) (invocation : Invocation) → at < to → slice_get ds at ≡ Some (Call tenant place retired invocation)
      → (call_count (take (at + 1) ds) ≡ call_count (take at ds) + 1) × (call_count (take at ds) < call_count (take to ds))
  call_room at to tenant place retired invocation before got =
      let next : call_count (take (at + 1) ds) ≡ call_count (take at ds) + 1 = let c = calls_next at (Call tenant place retired invocation) got in omega (arith, call_count-call tenant place retired invocation []) in
      (next, (let few = fewer_calls (at + 1) to (omega arith) in omega arith))

  -- a module line has one module behind those before it
  pub module_counts : (at : ℕ) (name bytes : List ℕ) → slice_get ds at ≡ Some (Module name bytes) → length (modules_of (take at ds)) < length (modules_of ds)
  module_counts at name bytes got =
      let within = slice_get_within ds at (Module name bytes) got in
      let one : length (modules_of (take (at + 1) ds)) ≡ length (modules_of (take at ds) ++ bytes ∷ []) = ap length (modules_next at (Module name bytes) got) in
      let more = length-append (modules_of (take at ds)) (bytes ∷ []) in
      let most = fewer_modules (at + 1) (length ds) (omega arith) in
      let all = ap length all_modules in omega arith

-- all directives
pub part_all : (ds : Directives) (from to : ℕ) → from ≡ 0 → to ≡ length ds → drop from (take to ds) ≡ ds
part_all ds from to none all = ap (λ (n : ℕ). drop n (take to ds)) none ∙ (ap (λ (n : ℕ). take n ds) all ∙ take_all (length ds) ds (omega arith))

-- ---- the calls of a part

call_before : (ds : Directives) (to j : ℕ) (d : Directive) → call_at (take to ds) j ≡ Some d → call_at ds j ≡ Some d
call_before ds zero j d got = cc
call_before [] (suc to) j d got = cc
call_before (Module name bytes ∷ ds) (suc to) j d got = call_before ds to j d got
call_before (Retire place name ∷ ds) (suc to) j d got = call_before ds to j d got
call_before (Call tenant place retired invocation ∷ ds) (suc to) zero d got = got
call_before (Call tenant place retired invocation ∷ ds) (suc to) (suc j) d got = call_before ds to j d got

call_behind : (ds : Directives) (from j : ℕ) (d : Directive) → call_at (drop from ds) j ≡ Some d → call_at ds (call_count (take from ds) + j) ≡ Some d
call_behind ds zero j d got = let none : 0 + j ≡ j = omega arith in ap (call_at ds) none ∙ got
call_behind [] (suc from) j d got = cc
call_behind (Module name bytes ∷ ds) (suc from) j d got = rw (call_count-module name bytes (take from ds)) (call_behind ds from j d got)
call_behind (Retire place name ∷ ds) (suc from) j d got = rw (call_count-retire place name (take from ds)) (call_behind ds from j d got)
call_behind (Call tenant place retired invocation ∷ ds) (suc from) j d got =
    let next : call_count (Call tenant place retired invocation ∷ take from ds) + j ≡ suc (call_count (take from ds) + j) = omega (arith, call_count-call tenant place retired invocation (take from ds)) in
    ap (call_at (Call tenant place retired invocation ∷ ds)) next ∙ call_behind ds from j d got

pub call_of_part : (ds : Directives) (from to j : ℕ) (d : Directive) → from ≤ to → call_at (drop from (take to ds)) j ≡ Some d → call_at ds (call_count (take from ds) + j) ≡ Some d
call_of_part ds from to j d order got =
    let same : call_count (take from (take to ds)) ≡ call_count (take from ds) = ap call_count (take-take from to ds order) in
    ap (λ (n : ℕ). call_at ds (n + j)) (sym same) ∙ call_before ds to (call_count (take from (take to ds)) + j) d (call_behind (take to ds) from j d got)

-- a call comes after those before it
pub call_here : (ds : Directives) (at tenant place : ℕ) (retired : Bool) (invocation : Invocation) → slice_get ds at ≡ Some (Call tenant place retired invocation)
    → call_at ds (call_count (take at ds)) ≡ Some (Call tenant place retired invocation)
call_here ds at tenant place retired invocation got =
    let first : drop at ds ≡ Call tenant place retired invocation ∷ drop (at + 1) ds = drop_got ds at (Call tenant place retired invocation) got in
    let none : call_count (take at ds) + 0 ≡ call_count (take at ds) = omega arith in
    ap (call_at ds) (sym none) ∙ call_behind ds at 0 (Call tenant place retired invocation) (ap (λ (xs : Directives). call_at xs 0) first)

-- ---- where modules stand

pub placed_call : (ds : Directives) (m at tenant place : ℕ) (retired : Bool) (invocation : Invocation) → IsPlacedFrom m ds → slice_get ds at ≡ Some (Call tenant place retired invocation)
    → place < m + length (modules_of (take at ds))
placed_call [] m at tenant place retired invocation placed got = cc
placed_call (d ∷ ds) m zero tenant place retired invocation placed got =
    let same : d ≡ Call tenant place retired invocation = same_Some d (Call tenant place retired invocation) got in
    let p : place < m = (subst (λ (x : Directive). IsPlacedFrom m (x ∷ ds)) same placed).0 in omega arith
placed_call (Module name bytes ∷ ds) m (suc at) tenant place retired invocation placed got =
    let p = placed_call ds (m + 1) at tenant place retired invocation placed got in
    let more : length (modules_of (Module name bytes ∷ take at ds)) ≡ suc (length (modules_of (take at ds))) = refl in omega arith
placed_call (Call t p r i ∷ ds) m (suc at) tenant place retired invocation placed got = placed_call ds m at tenant place retired invocation placed.1 got
placed_call (Retire p name ∷ ds) m (suc at) tenant place retired invocation placed got = placed_call ds m at tenant place retired invocation placed.1 got

pub placed_retire : (ds : Directives) (m at place : ℕ) (name : List ℕ) → IsPlacedFrom m ds → slice_get ds at ≡ Some (Retire place name) → place < m + length (modules_of (take at ds))
placed_retire [] m at place name placed got = cc
placed_retire (d ∷ ds) m zero place name placed got =
    let same : d ≡ Retire place name = same_Some d (Retire place name) got in
    let p : place < m = (subst (λ (x : Directive). IsPlacedFrom m (x ∷ ds)) same placed).0 in omega arith
placed_retire (Module other bytes ∷ ds) m (suc at) place name placed got =
    let p = placed_retire ds (m + 1) at place name placed got in
    let more : length (modules_of (Module other bytes ∷ take at ds)) ≡ suc (length (modules_of (take at ds))) = refl in omega arith
placed_retire (Call t p r i ∷ ds) m (suc at) place name placed got = placed_retire ds m at place name placed.1 got
placed_retire (Retire p other ∷ ds) m (suc at) place name placed got = placed_retire ds m at place name placed.1 got

placed_front : (ds : Directives) (m to : ℕ) → IsPlacedFrom m ds → IsPlacedFrom m (take to ds)
placed_front ds m zero placed = tt
placed_front [] m (suc to) placed = tt
placed_front (Module name bytes ∷ ds) m (suc to) placed = placed_front ds (m + 1) to placed
placed_front (Call t p r i ∷ ds) m (suc to) placed = (placed.0, placed_front ds m to placed.1)
placed_front (Retire p name ∷ ds) m (suc to) placed = (placed.0, placed_front ds m to placed.1)

placed_rest : (ds : Directives) (m from : ℕ) → IsPlacedFrom m ds → IsPlacedFrom (m + length (modules_of (take from ds))) (drop from ds)
placed_rest ds m zero placed = let none : m + 0 ≡ m = omega arith in subst (λ (n : ℕ). IsPlacedFrom n ds) (sym none) placed
placed_rest [] m (suc from) placed = tt
placed_rest (Module name bytes ∷ ds) m (suc from) placed =
    let next : m + 1 + length (modules_of (take from ds)) ≡ m + length (modules_of (Module name bytes ∷ take from ds)) = omega arith in
    subst (λ (n : ℕ). IsPlacedFrom n (drop from ds)) next (placed_rest ds (m + 1) from placed)
placed_rest (Call t p r i ∷ ds) m (suc from) placed = placed_rest ds m from placed.1
placed_rest (Retire p name ∷ ds) m (suc from) placed = placed_rest ds m from placed.1

placed_in : (ds : Directives) (m j tenant place : ℕ) (retired : Bool) (invocation : Invocation) → IsPlacedFrom m ds → call_at ds j ≡ Some (Call tenant place retired invocation)
    → place < m + length (modules_of ds)
placed_in [] m j tenant place retired invocation placed got = cc
placed_in (Module name bytes ∷ ds) m j tenant place retired invocation placed got =
    let p = placed_in ds (m + 1) j tenant place retired invocation placed got in
    let more : length (modules_of (Module name bytes ∷ ds)) ≡ suc (length (modules_of ds)) = refl in omega arith
placed_in (Retire p name ∷ ds) m j tenant place retired invocation placed got = placed_in ds m j tenant place retired invocation placed.1 got
placed_in (Call t p r i ∷ ds) m zero tenant place retired invocation placed got =
    let same : p ≡ place = cc in
    let lt : p < m = placed.0 in omega arith
placed_in (Call t p r i ∷ ds) m (suc j) tenant place retired invocation placed got = placed_in ds m j tenant place retired invocation placed.1 got

-- the module of each call of a part is one of those before its end
pub placed_in_part : (ds : Directives) (from to j tenant place : ℕ) (retired : Bool) (invocation : Invocation) → IsPlacedFrom 0 ds → from ≤ to
    → call_at (drop from (take to ds)) j ≡ Some (Call tenant place retired invocation) → place < length (modules_of (take to ds))
placed_in_part ds from to j tenant place retired invocation placed order got =
    let p = placed_in (drop from (take to ds)) (0 + length (modules_of (take from (take to ds)))) j tenant place retired invocation (placed_rest (take to ds) 0 from (placed_front ds 0 to placed)) got in
    let same : length (modules_of (take from (take to ds))) ≡ length (modules_of (take from ds)) = ap (λ (xs : Directives). length (modules_of xs)) (take-take from to ds order) in
    let both = ap length (modules_part ds from to order) in
    let all = length-append (modules_of (take from ds)) (modules_of (drop from (take to ds))) in omega arith

-- ---- flags

flagged_among : (ds : Directives) (done : List ℕ) (at tenant place : ℕ) (retired : Bool) (invocation : Invocation) → AreFlagged done ds → Contains done place
    → slice_get ds at ≡ Some (Call tenant place retired invocation) → retired ≡ true
flagged_among [] done at tenant place retired invocation flagged among got = cc
flagged_among (Module name bytes ∷ ds) done zero tenant place retired invocation flagged among got = cc
flagged_among (Module name bytes ∷ ds) done (suc at) tenant place retired invocation flagged among got = flagged_among ds done at tenant place retired invocation flagged among got
flagged_among (Call t p r i ∷ ds) done zero tenant place retired invocation flagged among got =
    let place_is : p ≡ place = cc in
    let flag_is : r ≡ retired = cc in
    sym flag_is ∙ flagged.0.1 (subst (Contains done) (sym place_is) among)
flagged_among (Call t p r i ∷ ds) done (suc at) tenant place retired invocation flagged among got = flagged_among ds done at tenant place retired invocation flagged.1 among got
flagged_among (Retire p name ∷ ds) done zero tenant place retired invocation flagged among got = cc
flagged_among (Retire p name ∷ ds) done (suc at) tenant place retired invocation flagged among got =
    flagged_among ds (p ∷ done) at tenant place retired invocation flagged (Contains-append_right (p ∷ []) done place among) got

-- a call behind a retire line of its module is flagged
pub flagged_behind : (ds : Directives) (done : List ℕ) (line at tenant place : ℕ) (name : List ℕ) (retired : Bool) (invocation : Invocation) → AreFlagged done ds → line < at
    → slice_get ds line ≡ Some (Retire place name) → slice_get ds at ≡ Some (Call tenant place retired invocation) → retired ≡ true
flagged_behind ds done line zero tenant place name retired invocation flagged before retires got = absurd (omega arith)
flagged_behind [] done line (suc at) tenant place name retired invocation flagged before retires got = cc
flagged_behind (Module n b ∷ ds) done zero (suc at) tenant place name retired invocation flagged before retires got = cc
flagged_behind (Module n b ∷ ds) done (suc line) (suc at) tenant place name retired invocation flagged before retires got =
    flagged_behind ds done line at tenant place name retired invocation flagged (omega arith) retires got
flagged_behind (Call t p r i ∷ ds) done zero (suc at) tenant place name retired invocation flagged before retires got = cc
flagged_behind (Call t p r i ∷ ds) done (suc line) (suc at) tenant place name retired invocation flagged before retires got =
    flagged_behind ds done line at tenant place name retired invocation flagged.1 (omega arith) retires got
flagged_behind (Retire p n ∷ ds) done zero (suc at) tenant place name retired invocation flagged before retires got =
    let place_is : p ≡ place = cc in
    flagged_among ds (p ∷ done) at tenant place retired invocation flagged (0, omega arith, place_is) got
flagged_behind (Retire p n ∷ ds) done (suc line) (suc at) tenant place name retired invocation flagged before retires got =
    flagged_behind ds (p ∷ done) line at tenant place name retired invocation flagged (omega arith) retires got
