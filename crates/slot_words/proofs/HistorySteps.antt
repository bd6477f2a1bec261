-- A history goes on.
use Rattle.std.proofs.Common.{◌≡◌, ◌≢◌, ℕ, zero, suc, ◌+◌, ◌≤◌, ltb, ⊎_elim, inl, inr, ◌⊎◌, Bool, true, false, true≢false, if◌then◌else◌, List, [], ◌∷◌, ◌++◌, length, get_or, set, refl, sym, ap, ◌∙◌, subst, arith, append_assoc, append-nil, length-set, length-append}
use mathlib.Core.Option.{some, some-injective, some-ne-none}
use lib.ListN.{get_elem?}
use Rattle.std.specs.Prelude.{◌==◌, flat_map}
use Rattle.std.specs.List.{All, count_by, sum_by}
use Rattle.std.proofs.lemmas.Bool.{eq-eqb}
use Rattle.std.proofs.lemmas.Bool.Decides.{nat_tests}
use Rattle.std.proofs.lemmas.List.Elements.{All-nil, All-cons, All-head, All-tail, All-append}
use Rattle.std.proofs.lemmas.List.Sums.{sum_by-append, sum_by-cons, get_or-le-sum_by}
use Rattle.atomic_table.proofs.Lists.{at_set}
use Rattle.pool_core.specs.declared.seats.Seat.{Seat}
use Rattle.pool_core.specs.declared.seats.Stage.TheVariants.{Live}
use Rattle.pool_core.specs.declared.events.Event.{Event}
use Rattle.pool_core.proofs.WordBits.{bit_le}
use Rattle.pool_core.specs.StateWords.{bit}
use Rattle.pool_core.specs.PoolCore.{PoolCore, is_away, idle_seat}
use Rattle.pool_core.specs.EventEffects.{core_after}
use Rattle.pool_core.specs.RefusalRules.{seat_of, refusal_of}
use Rattle.pool_core.specs.Runs.{core_after_all, AllAllowed}
use Rattle.pool_core.proofs.RunLemmas.{allowed_more, core_after_all-more}
use Rattle.slot_words.specs.declared.views.PassView.{PassView}
use Rattle.slot_words.specs.declared.views.Bounds.{Bounds}
use Rattle.slot_words.specs.declared.views.Operation.{Operation}
use Rattle.slot_words.specs.declared.views.SeatTrail.{SeatTrail}
use Rattle.slot_words.specs.Views.{no_view, trails_of, view_after, view_left, view_given, view_joined, spent_view, first_view}
use Rattle.slot_words.specs.History.{noted, noted_by, trail_of, trails_in, is_of, IsTrail, IsHistory}
use Rattle.slot_words.proofs.AccountSteps.{count_by-views, count_by-set_view, count_by-view_more}
use Rattle.slot_words.proofs.SharedPasses.{two-le-sum_by}
use Rattle.slot_words.proofs.Lookups.{found}
use Rattle.slot_words.proofs.NotedBySeats.{noted_here, noted_elsewhere}

trail_of-push : (s : ℕ) (c : PoolCore) (es : List Event) (e : Event) → trail_of s c (es ++ e ∷ []) ≡ trail_of s c es ++ noted_by s (core_after_all c es) e
trail_of-push s c [] e = append-nil (noted_by s c e)
trail_of-push s c (x ∷ es) e = ap (λ os. noted_by s c x ++ os) (trail_of-push s (core_after c x) es e) ∙ sym (append_assoc (noted_by s c x) (trail_of s (core_after c x) es) (noted_by s (core_after_all (core_after c x) es) e))

-- what is at a place of a list that is one longer
at_end : {A : Type 0} (l : List A) (a b : A) (j : ℕ) → get_elem? (l ++ a ∷ []) j ≡ some b → (get_elem? l j ≡ some b) ⊎ ((j ≡ length l) × (a ≡ b))
at_end [] a b zero e = inr (refl, some-injective a b e)
at_end [] a b (suc j) e = absurd (some-ne-none b (sym e))
at_end (x ∷ xs) a b zero e = inl e
at_end (x ∷ xs) a b (suc j) e = ⊎_elim (λ h. inl h) (λ t. inr (ap suc t.0, t.1)) (at_end xs a b j e)

-- an event of which nothing is noted
noted_nowhere : (s : ℕ) (c : PoolCore) (e : Event) → noted c e ≡ [] → noted_by s c e ≡ []
noted_nowhere s c e none = let split : (b : Bool) → (if b then noted c e else []) ≡ [] = elim [ true ↦ none | false ↦ refl ] in split (seat_of e == s)

below_next : (s n : ℕ) → bit (ltb s n) + bit (n == s) ≡ bit (ltb s (n + 1))
below_next s n = grind (arith, nat_tests)

first_alone : (s : ℕ) → bit (0 == s) ≡ bit (ltb s 1)
first_alone s = grind (arith, nat_tests)

-- a view that is not away has the trails that it stands for
pub trails_here : (v : PassView) → is_away v.seat.stage ≡ false → trails_in v ≡ trails_of v
trails_here v lives = ap (λ (b : Bool). if b then [] else trails_of v) lives

-- how many trails of a seat a view has
abbrev trails_of_seat : ℕ → PassView → ℕ
trails_of_seat s v = count_by (is_of s) (trails_in v)

own_and_joined : (s : ℕ) (v : PassView) → is_away v.seat.stage ≡ false → trails_of_seat s v ≡ bit (v.number == s) + count_by (is_of s) v.joined
own_and_joined s v lives = ap (λ (ts : List SeatTrail). count_by (is_of s) ts) (trails_here v lives) ∙ sum_by-cons (λ (t : SeatTrail). bit (is_of s t)) (record { seat = v.number; trail = v.trail }) v.joined

module _ (opening core : PoolCore) (views : List PassView) (h : IsHistory opening core views) where
  -- a seat's own trail is the only one of that seat, in its view
  joined_elsewhere : (id : ℕ) (v : PassView) → get_elem? views id ≡ some v → is_away v.seat.stage ≡ false → count_by (is_of id) v.joined ≡ 0
  joined_elsewhere id v at lives = let g : PassView → ℕ = trails_of_seat id in let here = found views id v no_view at in
      let all : sum_by g views ≡ bit (ltb id (length views)) = sym (count_by-views trails_in (is_of id) views) ∙ h.one_each id in
      let le : g (get_or views id no_view) ≤ sum_by g views = get_or-le-sum_by g views id no_view here.0 in
      let is : g (get_or views id no_view) ≡ g v = ap g here.1 in let one = bit_le (ltb id (length views)) in
      let own : bit (v.number == id) ≡ 1 = ap bit (eq-eqb v.number id (h.number id v at lives)) in
      let parts : g v ≡ bit (v.number == id) + count_by (is_of id) v.joined = own_and_joined id v lives in omega arith

  -- and in all views
  trails_elsewhere : (id j : ℕ) (v u : PassView) → get_elem? views id ≡ some v → is_away v.seat.stage ≡ false → get_elem? views j ≡ some u → j ≢ id → is_away u.seat.stage ≡ false → count_by (is_of id) (trails_of u) ≡ 0
  trails_elsewhere id j v u at lives there ne lives' = let g : PassView → ℕ = trails_of_seat id in
      let all : sum_by g views ≡ bit (ltb id (length views)) = sym (count_by-views trails_in (is_of id) views) ∙ h.one_each id in
      let two : g v + g (get_or views j no_view) ≤ sum_by g views = two-le-sum_by no_view g views id j v refl at ne in
      let is : g (get_or views j no_view) ≡ g u = ap g (found views j u no_view there).1 in let one = bit_le (ltb id (length views)) in
      let own : bit (v.number == id) ≡ 1 = ap bit (eq-eqb v.number id (h.number id v at lives)) in
      let parts : g v ≡ bit (v.number == id) + count_by (is_of id) v.joined = own_and_joined id v lives in
      let whole : g u ≡ count_by (is_of id) (trails_of u) = ap (λ (ts : List SeatTrail). count_by (is_of id) ts) (trails_here u lives') in omega arith

module _ (opening core : PoolCore) (views : List PassView) (h : IsHistory opening core views) (e : Event) (may : refusal_of core e ≡ 0) where
  abbrev longer : List Event
  longer = h.events ++ e ∷ []

  went_on : AllAllowed opening longer
  went_on = allowed_more opening h.events e h.allowed (ap (λ (c : PoolCore). refusal_of c e) (sym h.leads) ∙ may)

  leads_on : core_after core e ≡ core_after_all opening longer
  leads_on = ap (λ (c : PoolCore). core_after c e) h.leads ∙ sym (core_after_all-more opening h.events e)

  -- a trail, and what its seat notes of the event
  with_noted : (j : ℕ) (t : List Operation) → t ≡ trail_of j opening h.events → t ++ noted_by j core e ≡ trail_of j opening longer
  with_noted j t is = ap (λ os. os ++ noted_by j core e) is ∙ ap (λ (c : PoolCore). trail_of j opening h.events ++ noted_by j c e) h.leads ∙ sym (trail_of-push j opening h.events e)

  without : (j : ℕ) (t : List Operation) → noted_by j core e ≡ [] → t ≡ trail_of j opening h.events → t ≡ trail_of j opening longer
  without j t none is = sym (append-nil t) ∙ ap (λ os. t ++ os) (sym none) ∙ with_noted j t is

  -- trails of other seats are still theirs
  others_kept : (ts : List SeatTrail) → count_by (is_of (seat_of e)) ts ≡ 0 → All (IsTrail opening h.events) ts → All (IsTrail opening longer) ts
  others_kept ts none all = λ k d below. let t : SeatTrail = get_or ts k d in
      let le : bit (is_of (seat_of e) t) ≤ count_by (is_of (seat_of e)) ts = get_or-le-sum_by (λ (u : SeatTrail). bit (is_of (seat_of e) u)) ts k d below in
      without t.seat t.trail (noted_elsewhere t.seat core e (λ q. let own : bit (t.seat == seat_of e) ≡ 1 = ap bit (eq-eqb t.seat (seat_of e) (sym q)) in absurd (omega arith))) (all k d below)

  -- so are all, at an event of which nothing is noted
  all_kept : noted core e ≡ [] → (ts : List SeatTrail) → All (IsTrail opening h.events) ts → All (IsTrail opening longer) ts
  all_kept none ts all = λ k d below. let t : SeatTrail = get_or ts k d in without t.seat t.trail (noted_nowhere t.seat core e none) (all k d below)

  -- a seat notes of its event what it read
  pub history_after_step : (id : ℕ) (v w : PassView) (seat : Seat) (p : Operation) → get_elem? views id ≡ some v → seat_of e ≡ id → w ≡ view_after v seat p → is_away v.seat.stage ≡ false → is_away seat.stage ≡ false → p ∷ [] ≡ noted core e
      → IsHistory opening (core_after core e) (set views id w)
  history_after_step id v w seat p at own is here stays reads = let u : PassView = view_after v seat p in
      subst (λ (k : PassView). IsHistory opening (core_after core e) (set views id k)) (sym is) record {
        events = longer;
        allowed = went_on;
        leads = leads_on;
        number = λ j k there lives. ⊎_elim
            (λ (t : (j ≡ id) × (u ≡ k)). ap (λ (k : PassView). k.number) (sym t.1) ∙ h.number id v at here ∙ sym t.0)
            (λ (t : (j ≢ id) × (get_elem? views j ≡ some k)). h.number j k t.1 lives) (at_set views id j u k there);
        each = λ j k there lives. ⊎_elim
            (λ (t : (j ≡ id) × (u ≡ k)).
            let number : v.number ≡ id = h.number id v at here in let all = h.each id v at here in let first : SeatTrail = record { seat = v.number; trail = v.trail } in
            let mine : v.trail ≡ trail_of v.number opening h.events = All-head (IsTrail opening h.events) first v.joined all in
            let grown : u.trail ≡ trail_of v.number opening longer = ap (λ os. v.trail ++ os) (reads ∙ sym (noted_here v.number core e (own ∙ sym number))) ∙ with_noted v.number v.trail mine in
            subst (λ (k : PassView). All (IsTrail opening longer) (trails_of k)) t.1
            (All-cons (IsTrail opening longer) (record { seat = v.number; trail = u.trail }) v.joined grown
            (others_kept v.joined (ap (λ (k : ℕ). count_by (is_of k) v.joined) own ∙ joined_elsewhere opening core views h id v at here) (All-tail (IsTrail opening h.events) first v.joined all))))
            (λ (t : (j ≢ id) × (get_elem? views j ≡ some k)). others_kept (trails_of k) (ap (λ (n : ℕ). count_by (is_of n) (trails_of k)) own ∙ trails_elsewhere opening core views h id j v k at here t.1 t.0 lives) (h.each j k t.1 lives))
            (at_set views id j u k there);
        one_each = λ s. let l : length (set views id u) ≡ length views = length-set views id u in
            let change = count_by-set_view trails_in (is_of s) views id v u at in let was = own_and_joined s v here in let is = own_and_joined s u stays in let before = h.one_each s in
            let same : count_by (is_of s) (flat_map trails_in (set views id u)) ≡ count_by (is_of s) (flat_map trails_in views) = omega arith in
            same ∙ before ∙ ap (λ (n : ℕ). bit (ltb s n)) (sym l);
        unmade = λ s past. let inside = (found views id v no_view at).0 in let l = length-set views id u in
            sym (without s [] (noted_elsewhere s core e (λ q. let z : s ≡ id = sym q ∙ own in absurd (omega arith))) (sym (h.unmade s (omega arith))));
      }

  -- nobody notes anything of a split
  pub history_after_split : (id : ℕ) (v : PassView) → get_elem? views id ≡ some v → is_away v.seat.stage ≡ false → (view_given v).number ≡ length views → noted core e ≡ []
      → IsHistory opening (core_after core e) (set views id (view_left v) ++ view_given v ∷ [])
  history_after_split id v at here number none = let left : PassView = view_left v in let given : PassView = view_given v in let ls : List PassView = set views id left in
      let l : length ls ≡ length views = length-set views id left in let m : length (ls ++ given ∷ []) ≡ length ls + 1 = length-append ls (given ∷ []) in record {
        events = longer;
        allowed = went_on;
        leads = leads_on;
        number = λ j u there lives. ⊎_elim
            (λ (q : get_elem? ls j ≡ some u). ⊎_elim
            (λ (t : (j ≡ id) × (left ≡ u)). ap (λ (k : PassView). k.number) (sym t.1) ∙ h.number id v at here ∙ sym t.0)
            (λ (t : (j ≢ id) × (get_elem? views j ≡ some u)). h.number j u t.1 lives) (at_set views id j left u q))
            (λ (t : (j ≡ length ls) × (given ≡ u)). ap (λ (k : PassView). k.number) (sym t.1) ∙ number ∙ sym l ∙ sym t.0)
            (at_end ls given u j there);
        each = λ j u there lives. all_kept none (trails_of u) (⊎_elim
            (λ (q : get_elem? ls j ≡ some u). ⊎_elim
            (λ (t : (j ≡ id) × (left ≡ u)). subst (λ (k : PassView). All (IsTrail opening h.events) (trails_of k)) t.1 (h.each id v at here))
            (λ (t : (j ≢ id) × (get_elem? views j ≡ some u)). h.each j u t.1 lives) (at_set views id j left u q))
            (λ (t : (j ≡ length ls) × (given ≡ u)). subst (λ (k : PassView). All (IsTrail opening h.events) (trails_of k)) t.1
            (All-cons (IsTrail opening h.events) (record { seat = given.number; trail = [] }) [] (sym (h.unmade given.number (let n = number in omega arith))) (All-nil (IsTrail opening h.events))))
            (at_end ls given u j there));
        one_each = λ s. let change = count_by-set_view trails_in (is_of s) views id v left at in let more = count_by-view_more trails_in (is_of s) ls given in let before = h.one_each s in
            let new : trails_of_seat s given ≡ bit (length views == s) = own_and_joined s given refl ∙ ap (λ (n : ℕ). bit (n == s) + 0) number ∙ omega arith in let next = below_next s (length views) in
            let all : count_by (is_of s) (flat_map trails_in (ls ++ given ∷ [])) ≡ bit (ltb s (length views + 1)) = omega arith in
            all ∙ ap (λ (n : ℕ). bit (ltb s n)) (let n : length views + 1 ≡ length (ls ++ given ∷ []) = omega arith in n);
        unmade = λ s past. sym (without s [] (noted_nowhere s core e none) (sym (h.unmade s (omega arith))));
      }

  -- nor of a join
  pub history_after_join : (id other : ℕ) (v w : PassView) → v.seat ≡ idle_seat Live → w.seat ≡ idle_seat Live → get_elem? views id ≡ some v → other ≢ id → get_elem? (set views id (view_joined v w)) other ≡ some w → noted core e ≡ []
      → IsHistory opening (core_after core e) (set (set views id (view_joined v w)) other spent_view)
  history_after_join id other v w rest rest' at apart at' none = let b : PassView = view_joined v w in let bs : List PassView = set views id b in
      let l : length bs ≡ length views = length-set views id b in let m : length (set bs other spent_view) ≡ length bs = length-set bs other spent_view in
      let was : get_elem? views other ≡ some w = ⊎_elim (λ (t : (other ≡ id) × (b ≡ w)). absurd (apart t.0)) (λ (t : (other ≢ id) × (get_elem? views other ≡ some w)). t.1) (at_set views id other b w at') in
      let here : is_away v.seat.stage ≡ false = ap (λ (k : Seat). is_away k.stage) rest in let here' : is_away w.seat.stage ≡ false = ap (λ (k : Seat). is_away k.stage) rest' in record {
        events = longer;
        allowed = went_on;
        leads = leads_on;
        number = λ j u there lives. ⊎_elim
            (λ (t : (j ≡ other) × (spent_view ≡ u)). absurd (true≢false (ap (λ (k : PassView). is_away k.seat.stage) t.1 ∙ lives)))
            (λ (t : (j ≢ other) × (get_elem? bs j ≡ some u)). ⊎_elim
            (λ (q : (j ≡ id) × (b ≡ u)). ap (λ (k : PassView). k.number) (sym q.1) ∙ h.number id v at here ∙ sym q.0)
            (λ (q : (j ≢ id) × (get_elem? views j ≡ some u)). h.number j u q.1 lives) (at_set views id j b u t.1))
            (at_set bs other j spent_view u there);
        each = λ j u there lives. all_kept none (trails_of u) (⊎_elim
            (λ (t : (j ≡ other) × (spent_view ≡ u)). absurd (true≢false (ap (λ (k : PassView). is_away k.seat.stage) t.1 ∙ lives)))
            (λ (t : (j ≢ other) × (get_elem? bs j ≡ some u)). ⊎_elim
            (λ (q : (j ≡ id) × (b ≡ u)). subst (λ (k : PassView). All (IsTrail opening h.events) (trails_of k)) q.1
            (All-append (IsTrail opening h.events) (trails_of v) (trails_of w) (h.each id v at here) (h.each other w was here')))
            (λ (q : (j ≢ id) × (get_elem? views j ≡ some u)). h.each j u q.1 lives) (at_set views id j b u t.1))
            (at_set bs other j spent_view u there));
        one_each = λ s. let mine = count_by-set_view trails_in (is_of s) views id v b at in let spent = count_by-set_view trails_in (is_of s) bs other w spent_view at' in let before = h.one_each s in
            let both : trails_of_seat s b ≡ count_by (is_of s) (trails_of v) + count_by (is_of s) (trails_of w) =
            ap (λ (ts : List SeatTrail). count_by (is_of s) ts) (trails_here b here) ∙ sum_by-append (λ (t : SeatTrail). bit (is_of s t)) (trails_of v) (trails_of w) in
            let first : trails_of_seat s v ≡ count_by (is_of s) (trails_of v) = ap (λ (ts : List SeatTrail). count_by (is_of s) ts) (trails_here v here) in
            let second : trails_of_seat s w ≡ count_by (is_of s) (trails_of w) = ap (λ (ts : List SeatTrail). count_by (is_of s) ts) (trails_here w here') in
            let same : count_by (is_of s) (flat_map trails_in (set bs other spent_view)) ≡ count_by (is_of s) (flat_map trails_in views) = omega arith in
            same ∙ before ∙ ap (λ (n : ℕ). bit (ltb s n)) (sym (m ∙ l));
        unmade = λ s past. sym (without s [] (noted_nowhere s core e none) (sym (h.unmade s (omega arith))));
      }

-- at the opening nothing was done
pub history_at_opening : (bounds : Bounds) (opening : PoolCore) → IsHistory opening opening (first_view bounds ∷ [])
history_at_opening bounds opening = record {
  events = [];
  allowed = tt;
  leads = refl;
  number = elim [
    | zero ↦ λ v e lives. ap (λ (k : PassView). k.number) (sym (some-injective _ v e))
    | suc j ↦ λ v e lives. absurd (some-ne-none v (sym e))
  ];
  each = elim [
    | zero ↦ λ v e lives. subst (λ (k : PassView). All (IsTrail opening []) (trails_of k)) (some-injective _ v e)
        (All-cons (IsTrail opening []) (record { seat = 0; trail = [] }) [] refl (All-nil (IsTrail opening [])))
    | suc j ↦ λ v e lives. absurd (some-ne-none v (sym e))
  ];
  one_each = λ s. let more : count_by (is_of s) (flat_map trails_in (first_view bounds ∷ [])) ≡ 0 + trails_of_seat s (first_view bounds) = count_by-view_more trails_in (is_of s) [] (first_view bounds) in
      let own : trails_of_seat s (first_view bounds) ≡ bit (0 == s) + 0 = own_and_joined s (first_view bounds) refl in let first = first_alone s in
      let all : count_by (is_of s) (flat_map trails_in (first_view bounds ∷ [])) ≡ bit (ltb s 1) = omega arith in all;
  unmade = λ s past. refl;
}
