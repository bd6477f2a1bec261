-- Where a local stands.
use Rattle.std.proofs.Common.{◌≡◌, ℕ, ◌+◌, ◌<◌, List, [], ◌∷◌, ◌++◌, length, get_or, reverse, Some, refl, sym, ap, ◌∙◌, arith, append_assoc, length-append, set}
use Rattle.std.specs.Prelude.{slice_get}
use Rattle.std.proofs.lemmas.List.{get_or-append-add, get_or_append_left, length-set, set-append_left, set-append_right}
use Rattle.std.proofs.lemmas.Option.{slice_get_within, get_or_from_slice_get}
use Rattle.wasm_values.specs.declared.outcome.Val.{Val}
use Rattle.machine_steps.specs.declared.machine.Position.{Position}
use Rattle.machine_steps.specs.declared.machine.Machine.{Machine}
use Rattle.machine_steps.specs.declared.machine.Label.{Label}
use Rattle.machine_steps.specs.Configuration.{OpenBlock, Configuration}
use Rattle.machine_steps.specs.StackLayout.{operands_under, frames_under, label_of, labels_of, labels_under, Represents}
use Rattle.machine_steps.proofs.StackLayoutLemmas.{above, values_on}

get_in : (lower xs upper : List Val) (x : ℕ) (v d : Val) → slice_get xs x ≡ Some v → get_or (lower ++ (xs ++ upper)) (length lower + x) d ≡ v
get_in lower xs upper x v d e =
    get_or-append-add lower (xs ++ upper) x d ∙ get_or_append_left xs upper d x (slice_get_within xs x v e) ∙ get_or_from_slice_get xs x v d e

whole : (k : Configuration) (machine : Machine) → Represents k machine → machine.values.items ≡ frames_under k.activations ++ (k.locals ++ (operands_under [] k.blocks ++ reverse k.operands))
whole k machine sh =
    values_on k machine sh ∙ append_assoc (frames_under k.activations) (k.locals ++ operands_under [] k.blocks) (reverse k.operands)
    ∙ ap (λ (l : List Val). frames_under k.activations ++ l) (append_assoc k.locals (operands_under [] k.blocks) (reverse k.operands))

pub local_within : (k : Configuration) (machine : Machine) (x : ℕ) (v : Val) → Represents k machine → slice_get k.locals x ≡ Some v → machine.at.locals + x < length machine.values.items
local_within k machine x v sh e =
    omega (
      arith,
      ap length (whole k machine sh),
      length-append (frames_under k.activations) (k.locals ++ (operands_under [] k.blocks ++ reverse k.operands)),
      length-append k.locals (operands_under [] k.blocks ++ reverse k.operands),
      slice_get_within k.locals x v e,
      ap (λ (a : Position). a.locals) sh.at,
    )

pub local_value : (k : Configuration) (machine : Machine) (x : ℕ) (v d : Val) → Represents k machine → slice_get k.locals x ≡ Some v → get_or machine.values.items (machine.at.locals + x) d ≡ v
local_value k machine x v d sh e =
    ap (λ (l : List Val). get_or l (machine.at.locals + x) d) (whole k machine sh)
    ∙ ap (λ (a : Position). get_or (frames_under k.activations ++ (k.locals ++ (operands_under [] k.blocks ++ reverse k.operands))) (a.locals + x) d) sh.at
    ∙ get_in (frames_under k.activations) k.locals (operands_under [] k.blocks ++ reverse k.operands) x v d e

-- ---- a local that is given a value

-- the parts of the values one after the other
flat_whole : (bs ls : List Val) (os : List OpenBlock) (vs : List Val) → operands_under (bs ++ ls) os ++ vs ≡ bs ++ (ls ++ (operands_under [] os ++ vs))
flat_whole bs ls os vs =
    ap (λ (l : List Val). l ++ vs) (above (bs ++ ls) os ∙ append_assoc bs ls (operands_under [] os)) ∙ append_assoc bs (ls ++ operands_under [] os) vs
    ∙ ap (λ (l : List Val). bs ++ l) (append_assoc ls (operands_under [] os) vs)

set_in : (bs ls us : List Val) (x : ℕ) (v : Val) → x < length ls → set (bs ++ (ls ++ us)) (length bs + x) v ≡ bs ++ (set ls x v ++ us)
set_in bs ls us x v lt =
    set-append_right bs (ls ++ us) (length bs) (length bs + x) v refl (omega arith)
    ∙ ap (λ (i : ℕ). bs ++ set (ls ++ us) i v) (omega arith) ∙ ap (λ (l : List Val). bs ++ l) (set-append_left ls us x v lt)

-- labels count the values under them
under_as_long : (b b' : List Val) (os : List OpenBlock) → length b ≡ length b' → length (operands_under b os) ≡ length (operands_under b' os)
under_as_long b b' [] e = e
under_as_long b b' (o ∷ os) e = omega (arith, under_as_long b b' os e, length-append (operands_under b os) (reverse o.below), length-append (operands_under b' os) (reverse o.below))

labels_alike : (b b' : List Val) (os : List OpenBlock) → length b ≡ length b' → labels_of b os ≡ labels_of b' os
labels_alike b b' [] e = refl
labels_alike b b' (o ∷ os) e =
    ap (λ (l : List Label). l ++ label_of (length (operands_under b (o ∷ os))) o ∷ []) (labels_alike b b' os e)
    ∙ ap (λ (n : ℕ). labels_of b' os ++ label_of n o ∷ []) (under_as_long b b' (o ∷ os) e)

pub shown_put : (k : Configuration) (old new : Machine) (x : ℕ) (v u : Val) → Represents k old → slice_get k.locals x ≡ Some u → new.at ≡ old.at → new.values.items ≡ set old.values.items (old.at.locals + x) v
    → new.labels.items ≡ old.labels.items → new.frames.items ≡ old.frames.items → Represents (record k { locals = set k.locals x v }) new
shown_put k old new x v u sh there at values labels frames =
    let bs = frames_under k.activations in
    let rest = operands_under [] k.blocks ++ reverse k.operands in
    let as_long : length (bs ++ k.locals) ≡ length (bs ++ set k.locals x v) = omega (arith, length-append bs k.locals, length-append bs (set k.locals x v), length-set k.locals x v) in
    record {
      at = at ∙ sh.at;
      values = values
          ∙ ap (λ (l : List Val). set l (old.at.locals + x) v) (sh.values ∙ flat_whole bs k.locals k.blocks (reverse k.operands))
          ∙ ap (λ (a : Position). set (bs ++ (k.locals ++ rest)) (a.locals + x) v) sh.at
          ∙ set_in bs k.locals rest x v (slice_get_within k.locals x u there)
          ∙ sym (flat_whole bs (set k.locals x v) k.blocks (reverse k.operands));
      labels = labels ∙ sh.labels ∙ ap (λ (l : List Label). labels_under k.activations ++ l) (labels_alike (bs ++ k.locals) (bs ++ set k.locals x v) k.blocks as_long);
      frames = frames ∙ sh.frames;
    }
