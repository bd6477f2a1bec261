-- The places of names, as a map has them.
use Rattle.std.proofs.Common.{Vec, get_or, not, subst, ◌≡◌, ◌↔◌, ℕ, ◌+◌, ◌<◌, ◌≤◌, Bool, true, false, cond, nat_lt, List, [], ◌∷◌, ◌++◌, length, Option, Some, None, refl, sym, ap, ◌∙◌, arith, ⊎_elim}
use Rattle.std.specs.Global.{Global}
use Rattle.std.specs.Prelude.{IfSome}
use Rattle.std.specs.Ordering.{nat_cmp}
use Rattle.std.specs.Cmp.{eq_by_cmp_equiv}
use Rattle.std.specs.Cmp.Lexicographic.{slice_cmp, bytes_decides, nat_list_cmp_total, nat_list_eq_equiv}
use Rattle.std.specs.BTreeMap.{BTreeMap, UpdatesBy, get_by, is_at}
use Rattle.std.specs.Map.{KeepsOthers, lookup}
use Rattle.std.specs.List.{position_or_len, slice_get}
use Rattle.std.specs.Str.{bytes_eq}
use Rattle.std.proofs.Math.Dec.{eqb}
use Rattle.std.proofs.lemmas.Bool.Decides.{nat_tests}
use Rattle.std.proofs.Math.ListN.{get_or-append}
use Rattle.std.proofs.lemmas.List.{length-append}
use Rattle.std.proofs.lemmas.List.Quantifiers.{position-Some}
use Rattle.std.proofs.lemmas.Option.{get_or_from_slice_get, slice_get-get_or, slice_get_within}
use Rattle.std.proofs.lemmas.List.Sums.{prefix_len-le-length}
use Rattle.std.proofs.lemmas.List.Folds.{position_or_len_push}
use Rattle.std.proofs.lemmas.Slice.Eq.{bytes_eq-Decides}
use Rattle.std.proofs.lemmas.Map.Text.{is_eq-slice_cmp}
use Rattle.std.proofs.lemmas.Bool.{cases_Bool, cond-true, cond-false}
use Rattle.request_words.specs.Words.{place_of}
use Rattle.request_text.specs.Reading.{ArePlaces, IsOwnPlace}

-- the place k, which is that of the first of n that passes, or n; of one more, where b says whether it passes
abbrev at_most : ℕ → ℕ → Option ℕ
at_most k n = cond (nat_lt k n) (Some k) None

one_more : (n k : ℕ) (b : Bool) → k ≤ n → (b ≡ true → k ≡ n) → at_most (cond (eqb k n) (n + cond b 0 1) k) (n + 1) ≡ cond b (Some n) (at_most k n)
one_more n k true le last = grind (arith, nat_tests)
one_more n k false le last = grind (arith, nat_tests)

none_at : (n k : ℕ) → k ≤ n → at_most k n ≡ None → k ≡ n
none_at n k le e = grind (arith, nat_tests)

first_le : (q : List ℕ) (names : List (List ℕ)) → position_or_len (λ other. bytes_eq other q) names ≤ length names
first_le q names = prefix_len-le-length (λ other. not (bytes_eq other q)) names

pub place_of-push : (names : List (List ℕ)) (name q : List ℕ) → place_of names name ≡ None → place_of (names ++ name ∷ []) q ≡ cond (bytes_eq name q) (Some (length names)) (place_of names q)
unfolding place_of
place_of-push names name q none =
    let k : ℕ = position_or_len (λ other. bytes_eq other q) names in
    let pushed = position_or_len_push (λ (other : List ℕ). bytes_eq other q) names name in
    let long : length (names ++ name ∷ []) ≡ length names + 1 = length-append names (name ∷ []) in
    ap (λ (n : ℕ). at_most (position_or_len (λ (other : List ℕ). bytes_eq other q) (names ++ name ∷ [])) n) long
    ∙ ap (λ (j : ℕ). at_most j (length names + 1)) pushed
    ∙ one_more (length names) k (bytes_eq name q) (first_le q names)
    (λ same. let e : name ≡ q = (bytes_eq-Decides name q).0 same in
    none_at (length names) k (first_le q names) (ap (λ (x : List ℕ). at_most (position_or_len (λ (other : List ℕ). bytes_eq other x) names) (length names)) (sym e) ∙ none))

within_at : (k n : ℕ) → IfSome (at_most k n) (λ place. place < n)
within_at k n = split (nat_lt k n) refl where
  split : (b : Bool) → nat_lt k n ≡ b → IfSome (cond b (Some k) None) (λ place. place < n)
  split true e = grind (arith, nat_tests)
  split false e = tt

pub place_within : (names : List (List ℕ)) (name : List ℕ) → IfSome (place_of names name) (λ place. place < length names)
unfolding place_of
place_within names name = within_at (position_or_len (λ other. bytes_eq other name) names) (length names)

-- the name at its place
pub name_at : (names : List (List ℕ)) (name : List ℕ) (place : ℕ) → place_of names name ≡ Some place → slice_get names place ≡ Some name
unfolding place_of
name_at names name place found =
    let at = position-Some (λ (other : List ℕ). bytes_eq other name) names place [] found in
    slice_get-get_or names place [] at.0 ∙ ap (λ (n : List ℕ). Some n) ((bytes_eq-Decides (get_or names place []) name).0 at.1)

-- a name's place is its own
pub own_place : (names : List (List ℕ)) (name : List ℕ) → IfSome (place_of names name) (IsOwnPlace names)
own_place names name = split (place_of names name) refl where
  split : (o : Option ℕ) → place_of names name ≡ o → IfSome o (IsOwnPlace names)
  split None none = tt
  split (Some place) found = subst (λ (o : Option (List ℕ)). IfSome o (λ n. place_of names n ≡ Some place)) (sym (name_at names name place found)) found

-- so is that of one more name
pub own_place-push : (names : List (List ℕ)) (name : List ℕ) → place_of names name ≡ None → IsOwnPlace (names ++ name ∷ []) (length names)
own_place-push names name none =
    let more : List (List ℕ) = names ++ name ∷ [] in
    let is : place_of more name ≡ Some (length names) = place_of-push names name name none ∙ cond-true (bytes_eq name name) _ _ ((bytes_eq-Decides name name).1 refl) in
    subst (λ (o : Option ℕ). IfSome o (IsOwnPlace more)) is (own_place more name)

-- the name that stands at its own place is found there
pub found_at_once : (names : List (List ℕ)) (place : ℕ) (name : List ℕ) → IsOwnPlace names place → slice_get names place ≡ Some name → place_of names name ≡ Some place
found_at_once names place name own at = subst (λ (o : Option (List ℕ)). IfSome o (λ n. place_of names n ≡ Some place)) at own

-- the name at a place is this one exactly where their bytes are equal
pub same_name : (other name : List ℕ) (found : Option (List ℕ)) (same : Bool) → found ≡ Some other → same ≡ bytes_eq other name → (same ≡ true) ↔ (found ≡ Some name)
same_name other name found same at is = (
  λ yes. at ∙ ap (λ (n : List ℕ). Some n) ((bytes_eq-Decides other name).0 (sym is ∙ yes)),
  λ here. let e : Some other ≡ Some name = sym at ∙ here in
      let equal : other ≡ name = cc in
      is ∙ (bytes_eq-Decides other name).1 equal,
)

-- at a place without a name there is none
pub none_of_name : (name : List ℕ) (found : Option (List ℕ)) → found ≡ None → (false ≡ true) ↔ (found ≡ Some name)
none_of_name name found none = (λ never. cc, λ here. cc)

-- what stands at a place stays there where more follows
pub slice_get-append : {A : Type 0} (xs ys : List A) (k : ℕ) (x : A) → slice_get xs k ≡ Some x → slice_get (xs ++ ys) k ≡ Some x
slice_get-append {A = A} xs ys k x at =
    let within : k < length xs = slice_get_within xs k x at in
    let longer : k < length (xs ++ ys) = omega (arith, within, length-append xs ys) in
    slice_get-get_or (xs ++ ys) k x longer ∙ ap (λ (y : A). Some y) (get_or-append xs ys x k within ∙ get_or_from_slice_get xs k x x at)

-- ---- a map with keys of bytes

-- what a change at the bytes bs leaves at any bytes cs
pub updated_at : {X : Type 0} (bs : List ℕ) (m n : BTreeMap (Vec ℕ Global) X) (w : Option X) → UpdatesBy (λ x y. slice_cmp nat_cmp x.items y.items) (λ key. slice_cmp nat_cmp bs key.items) m n w
    → (cs : List ℕ) → get_by (λ key. slice_cmp nat_cmp cs key.items) n ≡ cond (bytes_eq bs cs) w (get_by (λ key. slice_cmp nat_cmp cs key.items) m)
unfolding KeepsOthers
updated_at bs m n w h cs =
    ⊎_elim
    (λ y. subst (λ (l : List ℕ). get_by (λ key. slice_cmp nat_cmp l key.items) n ≡ w) ((bytes_decides bs cs).0 y) h.1 ∙ sym (cond-true (bytes_eq bs cs) w _ y))
    (λ e. h.3 _ (λ x y. (eq_by_cmp_equiv nat_list_cmp_total).congr cs x.items y.items)
    (λ k y. is_eq-slice_cmp cs k.items ∙ nat_list_eq_equiv.symm cs k.items ∙ sym (nat_list_eq_equiv.congr bs k.items cs (sym (is_eq-slice_cmp bs k.items) ∙ y)) ∙ e)
    ∙ sym (cond-false (bytes_eq bs cs) w _ e))
    (cases_Bool (bytes_eq bs cs))

-- one more name, at the next place
pub places-push : (old new : BTreeMap (Vec ℕ Global) ℕ) (names : List (List ℕ)) (name : List ℕ) → place_of names name ≡ None → ArePlaces old names
    → UpdatesBy (λ x y. slice_cmp nat_cmp x.items y.items) (λ key. slice_cmp nat_cmp name key.items) old new (Some (length names)) → ArePlaces new (names ++ name ∷ [])
places-push old new names name none places h q =
    updated_at name old new (Some (length names)) h q ∙ ap (cond (bytes_eq name q) (Some (length names))) (places q) ∙ sym (place_of-push names name q none)

-- the same entries and the same names
pub places-same : (old new : BTreeMap (Vec ℕ Global) ℕ) (names names' : List (List ℕ)) → new.entries ≡ old.entries → names' ≡ names → ArePlaces old names → ArePlaces new names'
places-same old new names names' same kept places q =
    ap (λ (es : List (Vec ℕ Global × ℕ)). lookup (is_at (λ key. slice_cmp nat_cmp q key.items)) es) same ∙ places q ∙ ap (λ (ns : List (List ℕ)). place_of ns q) (sym kept)
