-- Exports by their names: names that rise differ, and a search along them finds an export.
use Rattle.std.proofs.Common.{◌≡◌, ◌≢◌, ℕ, zero, suc, ◌+◌, ◌<◌, List, [], ◌∷◌, Bool, true, false, Option, Some, None, length, map, get_or, refl, sym, ap, ◌∙◌, subst, arith, ⊎_elim, inl, inr}
use Rattle.std.specs.Prelude.{AllPairs, IfSome, IfNone, IsPermutation, IsSorted, option_and_then, slice_get}
use Rattle.std.specs.Option.{option_map_or}
use Rattle.std.specs.List.{IsDistinct, range_with_len, HoldsAt}
use Rattle.std.specs.List.Sorted.{IsPartitionPoint, IsNonDecreasingBy, IsStrictlySortedBy}
use Rattle.std.specs.Ordering.{is_eq, is_lt, ordering_index, ordering_reverse}
use Rattle.std.specs.declared.cmp.Ordering.{Ordering}
use Rattle.std.specs.declared.cmp.Ordering.TheVariants.{Less, Equal, Greater}
use Rattle.std.proofs.lemmas.Cmp.{nat_list_cmp_total}
use Rattle.std.proofs.lemmas.Bool.{cases_order, false_from_ne_true}
use Rattle.std.proofs.lemmas.List.{get_or-map, length-map, get_or_default}
use Rattle.std.proofs.lemmas.List.FromFn.{length-range_with_len, get_or-range_with_len, fill_by_all}
use Rattle.std.proofs.lemmas.List.Sorted.{IsPermutation-map, Contains-permutation, IsPermutation-sym, searchable_from_sorted}
use Rattle.std.proofs.lemmas.Map.Keys.{IsDistinct-from_sorted, IsDistinct-IsPermutation, IsDistinct-from_apart, apart_from_distinct, sorted_from_all_adjacent, Less-from_sorted}
use Rattle.std.proofs.lemmas.Map.Text.{is_eq-slice_cmp}
use Rattle.std.proofs.lemmas.Slice.Eq.{bytes_eq-Decides}
use Rattle.std.proofs.lemmas.Option.{slice_get_within, slice_get_cases}
use Rattle.wasm_types.specs.declared.module.Export.{Export}
use Rattle.wasm_types.specs.declared.module.ExportDesc.{ExportDesc}
use Rattle.wasm_types.specs.declared.module.ExportDesc.TheVariants as desc
use Rattle.wasm_spec.specs.Validity.{Exports}
use Rattle.wasm_validate.specs.ByName.{name_of, compare, of_numbers, Rise, AreByName, function_exported, function_of_desc}

-- names
equal_names : (xs ys : List ℕ) → compare xs ys ≡ Equal → xs ≡ ys
equal_names xs ys e = (bytes_eq-Decides xs ys).0 (sym (is_eq-slice_cmp xs ys) ∙ ap is_eq e)

same_compare : (xs ys : List ℕ) → xs ≡ ys → is_eq (compare xs ys) ≡ true
same_compare xs ys e = is_eq-slice_cmp xs ys ∙ (bytes_eq-Decides xs ys).1 e

abbrev same : List ℕ → List ℕ → Bool
same xs ys = is_eq (compare xs ys)

same_not : (xs ys : List ℕ) → xs ≢ ys → same xs ys ≡ false
same_not xs ys h = false_from_ne_true (same xs ys) (λ t. h ((bytes_eq-Decides xs ys).0 (sym (is_eq-slice_cmp xs ys) ∙ t)))

reversed : (o : Ordering) → is_eq (ordering_reverse o) ≡ is_eq o
reversed Less = refl
reversed Equal = refl
reversed Greater = refl

same_flips : (xs ys : List ℕ) → same xs ys ≡ same ys xs
same_flips xs ys = ap is_eq (nat_list_cmp_total.antisymm xs ys) ∙ reversed (compare ys xs)

-- what is below, where the other order is not
below_as : (o p : Ordering) → p ≡ ordering_reverse o → is_lt p ≡ false → is_eq o ≡ false → o ≡ Less
below_as Less p e h n = refl
below_as Equal p e h n = cc
below_as Greater p e h n = let x : is_lt p ≡ true = ap is_lt e in cc (x, h)

at_map : (es : List Export) (k : ℕ) → get_or (map (λ e. e.name) es) k [] ≡ name_of es k
at_map [] k = refl
at_map (e ∷ es) zero = refl
at_map (e ∷ es) (suc k) = at_map es k

-- an export of this name that is this
exported_as : (e : Export) (n : List ℕ) (d : ExportDesc) → e.name ≡ n → e.desc ≡ d → e ≡ record { name = n; desc = d }
exported_as e n d named is = ap (λ (m : List ℕ). record e { name = m }) named ∙ ap (λ (c : ExportDesc). record e { name = n; desc = c }) is

module _ (exports : List Export) where
  name_at : (i : ℕ) (e : Export) → slice_get exports i ≡ Some e → name_of exports i ≡ e.name
  name_at i e at = ap (λ (o : Option Export). option_map_or (λ e. e.name) o []) at

  abbrev names : List (List ℕ)
  names = map (λ e. e.name) exports

  abbrev names_of : List ℕ → List (List ℕ)
  names_of numbers = map (name_of exports) numbers

  all_names : names_of (range_with_len 0 (length exports)) ≡ names
  all_names = sym (fill_by_all (name_of exports) names (length exports) [] (length-map exports (λ e. e.name)) (λ k lt. at_map exports k))

  -- exports of different names have different names in a list
  distinct_names : AllPairs (λ a b. a.name ≢ b.name) exports → IsDistinct same names
  distinct_names all = IsDistinct-from_apart same names (λ i j d lt le. ⊎_elim
      (λ a.
      let within : j < length exports = omega (arith, length-map exports (λ e. e.name)) in
      let x = get_or-map (λ (e : Export). e.name) exports i a.0 d (omega arith) in
      let y = get_or-map (λ (e : Export). e.name) exports j a.0 d within in
      ap (λ n. same n (get_or names j d)) x ∙ ap (λ n. same (get_or exports i a.0).name n) y ∙ same_not (get_or exports i a.0).name (get_or exports j a.0).name (all i j a.0 lt within))
      (λ b. absurd (omega (arith, b.0, length-map exports (λ e. e.name))))
      (slice_get_cases exports j).1)

  pairs_from : IsDistinct same names → AllPairs (λ a b. a.name ≢ b.name) exports
  pairs_from h i j d lt le e =
      let n = apart_from_distinct same names i j d.name h lt (omega (arith, length-map exports (λ e. e.name))) in
      let x = get_or-map (λ (e : Export). e.name) exports i d d.name (omega arith) in
      let y = get_or-map (λ (e : Export). e.name) exports j d d.name le in
      let t : same (get_or names i d.name) (get_or names j d.name) ≡ true = same_compare (get_or names i d.name) (get_or names j d.name) (x ∙ e ∙ sym y) in
      cc (n, t)

  module _ (numbers : List ℕ) where
    strict : Rise exports numbers (length numbers) → IsStrictlySortedBy compare (names_of numbers)
    strict h = sorted_from_all_adjacent nat_list_cmp_total (names_of numbers) [] (λ k lt.
        let within : k + 1 < length numbers = omega (arith, length-map numbers (name_of exports)) in
        let x = get_or-map (name_of exports) numbers k 0 [] (omega arith) in
        let y = get_or-map (name_of exports) numbers (k + 1) 0 [] within in
        ap (λ n. compare n (get_or (names_of numbers) (k + 1) [])) x ∙ ap (λ n. compare (name_of exports (get_or numbers k 0)) n) y ∙ h k 0 within)

    module _ (all : IsPermutation (range_with_len 0 (length exports)) numbers) where
      shuffled : IsPermutation names (names_of numbers)
      shuffled = subst (λ ns. IsPermutation ns (names_of numbers)) all_names (IsPermutation-map (name_of exports) (range_with_len 0 (length exports)) numbers all)

      -- names that rise differ
      pub differ : Rise exports numbers (length numbers) → AllPairs (λ a b. a.name ≢ b.name) exports
      differ h = pairs_from (IsDistinct-IsPermutation same same_flips (names_of numbers) names (IsPermutation-sym names (names_of numbers) shuffled) (IsDistinct-from_sorted compare (names_of numbers) (strict h)))

      -- sorted names that differ rise
      pub rise : IsSorted (of_numbers exports) numbers → AllPairs (λ a b. a.name ≢ b.name) exports → Rise exports numbers (length numbers)
      rise sorted pairs k d lt =
          let a = get_or numbers k d in
          let b = get_or numbers (k + 1) d in
          let apart = apart_from_distinct same (names_of numbers) k (k + 1) [] (IsDistinct-IsPermutation same same_flips names (names_of numbers) shuffled (distinct_names pairs)) (omega arith) (omega (arith, length-map numbers (name_of exports))) in
          let x = get_or-map (name_of exports) numbers k d [] (omega arith) in
          let y = get_or-map (name_of exports) numbers (k + 1) d [] lt in
          below_as (compare (name_of exports a) (name_of exports b)) (compare (name_of exports b) (name_of exports a)) (nat_list_cmp_total.antisymm (name_of exports b) (name_of exports a)) (sorted k d (omega arith) lt)
          (ap (λ n. same n (name_of exports b)) (sym x) ∙ ap (λ n. same (get_or (names_of numbers) k []) n) (sym y) ∙ apart)

    module _ (h : AreByName exports numbers) (name : List ℕ) where
      pub searchable : IsNonDecreasingBy (λ i. ordering_index (compare (name_of exports i) name)) numbers
      searchable = searchable_from_sorted nat_list_cmp_total (name_of exports) numbers name (λ k d ge lt.
          ap is_lt (nat_list_cmp_total.antisymm (name_of exports (get_or numbers (k + 1) d)) (name_of exports (get_or numbers k d)) ∙ ap ordering_reverse (h.rise k d lt)))

      -- where an export stands in the list
      record Place (j : ℕ) : Type 0 where
        at : ℕ
        within : at < length numbers
        is : (d : ℕ) → get_or numbers at d ≡ j

      place : (j : ℕ) → j < length exports → Place j
      place j lt =
          let c = Contains-permutation (range_with_len 0 (length exports)) numbers j h.all (j, omega (arith, length-range_with_len 0 (length exports)), get_or-range_with_len 0 (length exports) j j lt ∙ omega arith) in
          record { at = c.0; within = c.1; is = λ d. get_or_default numbers c.0 d j c.1 ∙ c.2 }

      named : (j : ℕ) (e : Export) → slice_get exports j ≡ Some e → e.name ≡ name → is_eq (compare (name_of exports j) name) ≡ true
      named j e at is = same_compare (name_of exports j) name (name_at j e at ∙ is)

      -- no export has this name
      pub none_found : (i : ℕ) → IsPartitionPoint (λ n. compare (name_of exports n) name ≡ Less) (λ n. compare (name_of exports n) name ≡ Greater) numbers i → (x : ℕ) → Exports exports name x → ⊥
      none_found i point x h =
          let p = place h.place (slice_get_within exports h.place (record { name = name; desc = desc.Func x }) h.there) in
          let here : compare (name_of exports (get_or numbers p.at 0)) name ≡ compare (name_of exports h.place) name = ap (λ n. compare (name_of exports n) name) (p.is 0) in
          let t : is_eq (compare (name_of exports (get_or numbers p.at 0)) name) ≡ true = ap is_eq here ∙ named h.place (record { name = name; desc = desc.Func x }) h.there refl in
          elim (cases_order p.at i) [
            | inl e ↦ let g = point.1 p.at 0 (omega (arith, e)) p.within in let z : false ≡ true = ap is_eq (sym g) ∙ t in cc (z)
            | inr (inl lt) ↦ let l = point.0 p.at 0 (omega arith) lt in let z : false ≡ true = ap is_eq (sym l) ∙ t in cc (z)
            | inr (inr gt) ↦ let g = point.1 p.at 0 (omega (arith, gt)) p.within in let z : false ≡ true = ap is_eq (sym g) ∙ t in cc (z)
          ]

      -- the export that was found
      module _ (at : ℕ) (within : at < length numbers) (equal : HoldsAt (λ n. compare (name_of exports n) name ≡ Equal) numbers at) where
        abbrev number : ℕ
        number = get_or numbers at 0

        found_as : (e : Export) (d : ExportDesc) → slice_get exports number ≡ Some e → e.desc ≡ d → IfSome (function_of_desc d) (Exports exports name)
        found_as e (desc.Func x) here is = record { place = number; there = here ∙ ap Some (exported_as e name (desc.Func x) (sym (name_at number e here) ∙ equal_names (name_of exports number) name (equal 0)) is) }
        found_as e (desc.Table x) here is = tt
        found_as e (desc.Memory x) here is = tt
        found_as e (desc.Global x) here is = tt

        found_in : (o : Option Export) → slice_get exports number ≡ o → IfSome (option_and_then function_exported o) (Exports exports name)
        found_in None here = tt
        found_in (Some e) here = found_as e e.desc here refl

        pub found : IfSome (option_and_then function_exported (slice_get exports number)) (Exports exports name)
        found = found_in (slice_get exports number) refl

        apart_places : (i j : ℕ) → i < j → j < length (names_of numbers) → get_or (names_of numbers) i [] ≡ get_or (names_of numbers) j [] → ⊥
        apart_places i j lt le e =
            let l = Less-from_sorted compare (names_of numbers) i j [] (strict h.rise) lt le in
            let t = same_compare (get_or (names_of numbers) i []) (get_or (names_of numbers) j []) e in
            let z : false ≡ true = ap is_eq (sym l) ∙ t in
            cc (z)

        -- two places of one name
        one_place : (k : ℕ) → k < length numbers → is_eq (compare (name_of exports (get_or numbers k 0)) name) ≡ true → k ≡ at
        one_place k lt t =
            let a = name_of exports (get_or numbers k 0) in
            let b = name_of exports number in
            let ab : a ≡ b = (bytes_eq-Decides a name).0 (sym (is_eq-slice_cmp a name) ∙ t) ∙ sym (equal_names b name (equal 0)) in
            let x = get_or-map (name_of exports) numbers k 0 [] lt in
            let y = get_or-map (name_of exports) numbers at 0 [] within in
            let xy : get_or (names_of numbers) k [] ≡ get_or (names_of numbers) at [] = x ∙ ab ∙ sym y in
            elim (cases_order k at) [
              | inl e ↦ e
              | inr (inl before) ↦ absurd (apart_places k at before (omega (arith, length-map numbers (name_of exports))) xy)
              | inr (inr after) ↦ absurd (apart_places at k after (omega (arith, length-map numbers (name_of exports))) (sym xy))
            ]

        pub only_found : (x : ℕ) → Exports exports name x → option_and_then function_exported (slice_get exports number) ≡ Some x
        only_found x e =
            let p = place e.place (slice_get_within exports e.place (record { name = name; desc = desc.Func x }) e.there) in
            let k = one_place p.at p.within (ap (λ n. is_eq (compare (name_of exports n) name)) (p.is 0) ∙ named e.place (record { name = name; desc = desc.Func x }) e.there refl) in
            let n : number ≡ e.place = ap (λ i. get_or numbers i 0) (sym k) ∙ p.is 0 in
            ap (λ i. option_and_then function_exported (slice_get exports i)) n ∙ ap (λ o. option_and_then function_exported o) e.there

        none_exported : option_and_then function_exported (slice_get exports number) ≡ None → (x : ℕ) → Exports exports name x → ⊥
        none_exported none x e = let s = only_found x e in cc (none, s)

        pub none_clause : (o : Option ℕ) → o ≡ option_and_then function_exported (slice_get exports number) → IfNone o ((x : ℕ) → Exports exports name x → ⊥)
        none_clause None e = none_exported (sym e)
        none_clause (Some y) e = tt
