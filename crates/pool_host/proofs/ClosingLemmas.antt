-- What passes have that are joined, the last one first.
use Rattle.std.proofs.Common.{◌≡◌, ℕ, ◌+◌, ◌≤◌, subst, List, [], ◌∷◌, ◌++◌, sym, ap, ◌∙◌, append_assoc, reverse}
use Rattle.std.specs.Prelude.{flat_map}
use Rattle.std.proofs.lemmas.List.{reverse-append}
use Rattle.std.proofs.lemmas.List.Concat.{flat_map-cons}
use Rattle.slot_words.specs.declared.kinds.KindCounts.{KindCounts}
use Rattle.slot_words.specs.declared.views.SeatTrail.{SeatTrail}
use Rattle.slot_words.specs.declared.words.Words.{Words}
use Rattle.slot_words.specs.Closing.{ClosesAs, CountsLeft}
use Rattle.slot_words.specs.Owned.{limit_of, passes_of, slots_of}
use Rattle.slot_words.specs.Passes.{Pass, joined_trails, operations, seat_number, share_of, trail, trails}
use Rattle.slot_words.specs.Views.{in_one}
use Rattle.pool_host.specs.Closing.{AreCounts, IsJoined}

module _ {X A : Type 0} (parts_of : X → List A) where
  -- the last of these comes first
  pub last_first : (xs ys : List X) (x : X) → xs ≡ ys ++ x ∷ [] → parts_of x ++ flat_map parts_of (reverse ys) ≡ flat_map parts_of (reverse xs)
  last_first xs ys x last =
      sym (ap (λ (zs : List X). flat_map parts_of (reverse zs)) last ∙ ap (λ (zs : List X). flat_map parts_of zs) (reverse-append ys (x ∷ [])) ∙ flat_map-cons parts_of x (reverse ys))

  -- one more of them is joined into what did `done`
  pub joined_next : (xs ys : List X) (x : X) (done more whole : List A) → xs ≡ ys ++ x ∷ [] → more ≡ done ++ parts_of x
      → done ++ flat_map parts_of (reverse xs) ≡ whole → more ++ flat_map parts_of (reverse ys) ≡ whole
  joined_next xs ys x done more whole last joined before =
      let rest : List A = flat_map parts_of (reverse ys) in
      ap (λ os. os ++ rest) joined ∙ append_assoc done (parts_of x) rest ∙ ap (λ os. done ++ os) (last_first xs ys x last) ∙ before

-- a pass of its own that was joined into another
pub is_joined : {V : Type 0} (p other q : Pass V) → share_of other ≡ 1 → share_of q ≡ share_of p + share_of other → seat_number q ≡ seat_number p → trail q ≡ trail p
    → joined_trails q ≡ joined_trails p ++ trails other → IsJoined p other q
is_joined p other q one share number same joined = record { share = rw one at share; done = cc }

-- what a pass leaves that stands for so many and has these trails
pub counts_of : {V I : Type 0} (words : Words V I) (p : Pass V) (n : ℕ) (ts : List SeatTrail) (k : KindCounts) → share_of p ≡ n → trails p ≡ ts → ClosesAs (slots_of words) (limit_of words) (passes_of words) (share_of p) (trails p) k
    → (share_of p ≡ passes_of words → CountsLeft (slots_of words) (operations p) k) → k.held + share_of p ≤ passes_of words → AreCounts words n ts k
counts_of words p n ts k share same closes left held = record {
  closes = subst (λ (t : ℕ × List SeatTrail). ClosesAs (slots_of words) (limit_of words) (passes_of words) t.0 t.1 k) (λ i. (share i, same i)) closes;
  held = subst (λ (m : ℕ). k.held + m ≤ passes_of words) share held;
  left = λ all. subst (λ (us : List SeatTrail). CountsLeft (slots_of words) (in_one us) k) same (left (share ∙ all));
}
