-- What an expression builder stands for after each of its steps.
use Rattle.std.proofs.Common.{◌≡◌, ℕ, ◌-◌, List, [], ◌∷◌, ◌++◌, length, get_or, reverse, true, false, refl, sym, ap, ◌∙◌, subst, arith, append_assoc}
use Rattle.std.specs.Prelude.{Option}
use Rattle.std.proofs.lemmas.List.{reverse-append, length_push, append-nil}
use Rattle.std.proofs.Math.Seq.{get_or-append_seam}
use Rattle.wasm_types.specs.declared.types.ValType.{ValType}
use Rattle.wasm_types.specs.declared.instr.Op.{Op}
use Rattle.wasm_types.specs.declared.instr.Op.TheVariants as op
use Rattle.wasm_types.specs.Tree.{Code, End, Plain, Block, Loop, If, Call, CallIndirect, code_of, codes_from, codes}
use Rattle.wasm_types.proofs.SequenceLemmas.{codes_from-push, length-codes_from}
use Rattle.instr_decode.specs.declared.expr_builder.FrameKind.{FrameKind}
use Rattle.instr_decode.specs.declared.expr_builder.FrameKind.TheVariants as kind
use Rattle.instr_decode.specs.declared.expr_builder.Frame.{Frame}
use Rattle.instr_decode.specs.declared.expr_builder.ExprBuilder.{ExprBuilder}
use Rattle.instr_decode.specs.Tokens.{IsLeaf}
use Rattle.instr_decode.specs.Contexts.{prepend, prepend_all, Enclosing, LastArm, ThenArm, ExprContext, IsFrame, AreFrames, StandsFor, pushed, BeginsElseAt, EndsAt}

prepend_all-push : (all : List Code) (ops : List Op) (o : Op) (c : Code) → prepend_all all (ops ++ o ∷ []) c ≡ prepend_all all ops (prepend all o c)
prepend_all-push all [] o c = refl
prepend_all-push all (x ∷ ops) o c = ap (prepend all x) (prepend_all-push all ops o c)

prepend_all-end : (all : List Code) (ops : List Op) → code_of all ops ≡ prepend_all all ops End
prepend_all-end all [] = refl
prepend_all-end all (op.Plain i ∷ ops) = ap (λ (c : Code). Plain i c) (prepend_all-end all ops)
prepend_all-end all (op.Block t k ∷ ops) = ap (λ (c : Code). Block t (get_or all k End) c) (prepend_all-end all ops)
prepend_all-end all (op.Loop t k ∷ ops) = ap (λ (c : Code). Loop t (get_or all k End) c) (prepend_all-end all ops)
prepend_all-end all (op.If t k j ∷ ops) = ap (λ (c : Code). If t (get_or all k End) (get_or all j End) c) (prepend_all-end all ops)
prepend_all-end all (op.Call x ∷ ops) = ap (λ (c : Code). Call x c) (prepend_all-end all ops)
prepend_all-end all (op.CallIndirect x ∷ ops) = ap (λ (c : Code). CallIndirect x c) (prepend_all-end all ops)

prepend-leaf : (all : List Code) (o : Op) (c : Code) → IsLeaf o → prepend all o c ≡ prepend [] o c
prepend-leaf all (op.Plain i) c h = refl
prepend-leaf all (op.Call x) c h = refl
prepend-leaf all (op.CallIndirect x) c h = refl
prepend-leaf all _ c h = absurd h

-- a frame stays one whichever sequence ends next
frame-grows : (earlier : List Code) (x : Code) (ops : List Op) (t : Option ValType) (q : FrameKind) (p : Enclosing) → IsFrame earlier ops t q p → IsFrame (earlier ++ x ∷ []) ops t q p
frame-grows earlier x ops t kind.Block (LastArm wrap) h = λ more b c. rw append_assoc (h (x ∷ more) b c)
frame-grows earlier x ops t kind.Loop (LastArm wrap) h = λ more b c. rw append_assoc (h (x ∷ more) b c)
frame-grows earlier x ops t kind.If (ThenArm wrap) h = λ more b d c. rw append_assoc (h (x ∷ more) b d c)
frame-grows earlier x ops t (kind.Else k) (LastArm wrap) h = λ more b c. simp append_assoc (h (x ∷ more) b c)
frame-grows earlier x ops t kind.Block (ThenArm wrap) h = absurd h
frame-grows earlier x ops t kind.Loop (ThenArm wrap) h = absurd h
frame-grows earlier x ops t kind.If (LastArm wrap) h = absurd h
frame-grows earlier x ops t (kind.Else k) (ThenArm wrap) h = absurd h

frames-grow : (earlier : List Code) (x : Code) (frames : List Frame) (enclosing : List Enclosing) → AreFrames earlier frames enclosing → AreFrames (earlier ++ x ∷ []) frames enclosing
frames-grow earlier x [] [] h = tt
frames-grow earlier x [] (p ∷ enclosing) h = absurd h
frames-grow earlier x (o ∷ frames) [] h = absurd h
frames-grow earlier x (o ∷ frames) (p ∷ enclosing) h = (frame-grows earlier x o.ops.items o.block_type o.kind p h.0, frames-grow earlier x frames enclosing h.1)

-- a leaf
pub stands-pushed : (sequences : List (List Op)) (frames : List Frame) (ops : List Op) (o : Op) (s : ExprContext)
    → IsLeaf o → StandsFor sequences frames ops s → StandsFor sequences frames (ops ++ o ∷ []) (pushed o s)
stands-pushed sequences frames ops o s leaf h = record {
  inner = λ more c. prepend_all-push _ ops o c ∙ h.inner more (prepend _ o c) ∙ ap s.inner (prepend-leaf _ o c leaf);
  enclosing = h.enclosing;
}

-- the tree of a sequence that is numbered
number-tree : (sequences : List (List Op)) (frames : List Frame) (ops : List Op) (s : ExprContext) → StandsFor sequences frames ops s
    → codes_from [] (sequences ++ ops ∷ []) ≡ codes_from [] sequences ++ s.inner End ∷ []
number-tree sequences frames ops s h =
    let earlier = codes_from [] sequences in
    let e = h.inner [] End in
    codes_from-push [] sequences ops ∙ ap (λ (x : Code). earlier ++ x ∷ []) (prepend_all-end earlier ops ∙ (rw append-nil at e))

-- it stands at its number, whatever sequences follow
at-number : (sequences : List (List Op)) (more : List Code) (x : Code) (k : ℕ) → k ≡ length sequences → get_or (codes_from [] sequences ++ x ∷ more) k End ≡ x
at-number sequences more x k e =
    let long : length (codes_from [] sequences) ≡ k = omega (arith, e, length-codes_from [] sequences) in
    rw (← long) (get_or-append_seam (codes_from [] sequences) x more End)

last-first : (frames : List Frame) (o : Frame) → reverse (frames ++ o ∷ []) ≡ o ∷ reverse frames
last-first frames o = reverse-append frames (o ∷ [])

-- the instruction of a frame of this kind, where its last sequence has number k
abbrev pub Names : FrameKind → Option ValType → ℕ → Op → Type 0
Names kind.Block t k o = o ≡ op.Block t k
Names kind.Loop t k o = o ≡ op.Loop t k
Names kind.If t k o = ⊥
Names (kind.Else j) t k o = o ≡ op.If t j k

named : (sequences : List (List Op)) (ops : List Op) (t : Option ValType) (q : FrameKind) (wrap : Code → Code → Code) (k : ℕ) (o : Op) (x : Code)
    → Names q t k o → k ≡ length sequences → IsFrame (codes_from [] sequences) ops t q (LastArm wrap)
    → (more : List Code) (c : Code) → prepend_all (codes_from [] sequences ++ x ∷ more) (ops ++ o ∷ []) c ≡ wrap x c
named sequences ops t kind.Block wrap k o x e n h = λ more c.
    let all = codes_from [] sequences ++ x ∷ more in
    prepend_all-push all ops o c ∙ ap (λ (p : Op). prepend_all all ops (prepend all p c)) e ∙ ap (λ (b : Code). prepend_all all ops (Block t b c)) (at-number sequences more x k n) ∙ h (x ∷ more) x c
named sequences ops t kind.Loop wrap k o x e n h = λ more c.
    let all = codes_from [] sequences ++ x ∷ more in
    prepend_all-push all ops o c ∙ ap (λ (p : Op). prepend_all all ops (prepend all p c)) e ∙ ap (λ (b : Code). prepend_all all ops (Loop t b c)) (at-number sequences more x k n) ∙ h (x ∷ more) x c
named sequences ops t kind.If wrap k o x e n h = absurd e
named sequences ops t (kind.Else j) wrap k o x e n h = λ more c.
    let all = codes_from [] sequences ++ x ∷ more in
    prepend_all-push all ops o c ∙ ap (λ (p : Op). prepend_all all ops (prepend all p c)) e ∙ ap (λ (b : Code). prepend_all all ops (If t (get_or all j End) b c)) (at-number sequences more x k n) ∙ h (x ∷ more) x c

-- an inner sequence ends
inner-ends : (sequences : List (List Op)) (frames : List Frame) (ops : List Op) (o : Frame) (k : ℕ) (x : Op) (inner : Code → Code) (wrap : Code → Code → Code) (enclosing : List Enclosing)
    → Names o.kind o.block_type k x → k ≡ length sequences → StandsFor sequences (frames ++ o ∷ []) ops (record { inner = inner; enclosing = LastArm wrap ∷ enclosing })
    → StandsFor (sequences ++ ops ∷ []) frames (o.ops.items ++ x ∷ []) (record { inner = wrap (inner End); enclosing = enclosing })
inner-ends sequences frames ops o k x inner wrap enclosing names n h =
    let s : ExprContext = record { inner = inner; enclosing = LastArm wrap ∷ enclosing } in
    let earlier = codes_from [] sequences in
    let e : codes_from [] (sequences ++ ops ∷ []) ≡ earlier ++ inner End ∷ [] = number-tree sequences (frames ++ o ∷ []) ops s h in
    let parts : AreFrames earlier (o ∷ reverse frames) (LastArm wrap ∷ enclosing) = subst (λ (l : List Frame). AreFrames earlier l (LastArm wrap ∷ enclosing)) (last-first frames o) h.enclosing in
    record {
      inner = λ more c. rw (e, append_assoc) (named sequences o.ops.items o.block_type o.kind wrap k x (inner End) names n parts.0 more c);
      enclosing = rw e (frames-grow earlier (inner End) (reverse frames) enclosing parts.1);
    }

-- the frames, from the innermost on
frames-of : (sequences : List (List Op)) (frames : List Frame) (ops : List Op) (o : Frame) (s : ExprContext) → StandsFor sequences (frames ++ o ∷ []) ops s
    → AreFrames (codes_from [] sequences) (o ∷ reverse frames) s.enclosing
frames-of sequences frames ops o s h = subst (λ (l : List Frame). AreFrames (codes_from [] sequences) l s.enclosing) (last-first frames o) h.enclosing

not-first : (earlier : List Code) (ops : List Op) (t : Option ValType) (q : FrameKind) (wrap : Code → Code → Code → Code) (k : ℕ) (x : Op) → Names q t k x → IsFrame earlier ops t q (ThenArm wrap) → ⊥
not-first earlier ops t kind.Block wrap k x n h = h
not-first earlier ops t kind.Loop wrap k x n h = h
not-first earlier ops t kind.If wrap k x n h = n
not-first earlier ops t (kind.Else j) wrap k x n h = h

pub ends-inner : (sequences : List (List Op)) (frames : List Frame) (ops : List Op) (o : Frame) (k : ℕ) (x : Op) (inner : Code → Code) (enclosing : List Enclosing) (m : ExprBuilder)
    → Names o.kind o.block_type k x → k ≡ length sequences → StandsFor sequences (frames ++ o ∷ []) ops (record { inner = inner; enclosing = enclosing })
    → m.sequences.items ≡ sequences ++ ops ∷ [] → m.frames.items ≡ frames → m.ops.items ≡ o.ops.items ++ x ∷ [] → EndsAt inner enclosing false m
ends-inner sequences frames ops o k x inner [] m names n h es eo ep = absurd (frames-of sequences frames ops o _ h)
ends-inner sequences frames ops o k x inner (ThenArm wrap ∷ enclosing) m names n h es eo ep =
    let p = frames-of sequences frames ops o _ h in
    absurd (not-first (codes_from [] sequences) o.ops.items o.block_type o.kind wrap k x names p.0)
ends-inner sequences frames ops o k x inner (LastArm wrap ∷ enclosing) m names n h es eo ep =
    (refl, rw (es, eo, ep) (inner-ends sequences frames ops o k x inner wrap enclosing names n h))

-- the frame of an `if` in its second arm
abbrev second_of : Frame → ℕ → Frame
second_of o k = record { ops = o.ops; kind = kind.Else k; block_type = o.block_type }

else-begun : (sequences : List (List Op)) (frames : List Frame) (ops : List Op) (o : Frame) (k : ℕ) (inner : Code → Code) (wrap : Code → Code → Code → Code) (enclosing : List Enclosing)
    → o.kind ≡ kind.If → k ≡ length sequences → StandsFor sequences (frames ++ o ∷ []) ops (record { inner = inner; enclosing = ThenArm wrap ∷ enclosing })
    → StandsFor (sequences ++ ops ∷ []) (frames ++ second_of o k ∷ []) [] (record { inner = λ c. c; enclosing = LastArm (wrap (inner End)) ∷ enclosing })
else-begun sequences frames ops o k inner wrap enclosing q n h =
    let s : ExprContext = record { inner = inner; enclosing = ThenArm wrap ∷ enclosing } in
    let earlier = codes_from [] sequences in
    let e : codes_from [] (sequences ++ ops ∷ []) ≡ earlier ++ inner End ∷ [] = number-tree sequences (frames ++ o ∷ []) ops s h in
    let parts = frames-of sequences frames ops o s h in
    let first : IsFrame earlier o.ops.items o.block_type kind.If (ThenArm wrap) = subst (λ (r : FrameKind). IsFrame earlier o.ops.items o.block_type r (ThenArm wrap)) q parts.0 in
    let second : IsFrame (earlier ++ inner End ∷ []) o.ops.items o.block_type (kind.Else k) (LastArm (wrap (inner End))) = λ more b c.
    simp append_assoc (ap (λ (x : Code). prepend_all (earlier ++ inner End ∷ more) o.ops.items (If o.block_type x b c)) (at-number sequences more (inner End) k n) ∙ first (inner End ∷ more) (inner End) b c) in
    record {
      inner = λ more c. refl;
      enclosing = rw (last-first frames (second_of o k)) (subst (λ (es : List Code). AreFrames es (second_of o k ∷ reverse frames) (LastArm (wrap (inner End)) ∷ enclosing)) (sym e)
          (second, frames-grow earlier (inner End) (reverse frames) enclosing parts.1));
    }

pub begins-else : (sequences : List (List Op)) (frames : List Frame) (ops : List Op) (o : Frame) (k : ℕ) (inner : Code → Code) (enclosing : List Enclosing) (m : ExprBuilder)
    → o.kind ≡ kind.If → k ≡ length sequences → StandsFor sequences (frames ++ o ∷ []) ops (record { inner = inner; enclosing = enclosing })
    → m.sequences.items ≡ sequences ++ ops ∷ [] → m.frames.items ≡ frames ++ second_of o k ∷ [] → m.ops.items ≡ [] → BeginsElseAt inner enclosing true m
begins-else sequences frames ops o k inner [] m q n h es eo ep = absurd (frames-of sequences frames ops o _ h)
begins-else sequences frames ops o k inner (LastArm wrap ∷ enclosing) m q n h es eo ep =
    let p = frames-of sequences frames ops o _ h in
    absurd (subst (λ (r : FrameKind). IsFrame (codes_from [] sequences) o.ops.items o.block_type r (LastArm wrap)) q p.0)
begins-else sequences frames ops o k inner (ThenArm wrap ∷ enclosing) m q n h es eo ep = (refl, rw (es, eo, ep) (else-begun sequences frames ops o k inner wrap enclosing q n h))

-- an `if` without a second arm ends, as one with an empty second
pub ends-if : (sequences : List (List Op)) (frames : List Frame) (ops : List Op) (o : Frame) (k : ℕ) (inner : Code → Code) (enclosing : List Enclosing) (m : ExprBuilder)
    → o.kind ≡ kind.If → k ≡ length sequences → StandsFor sequences (frames ++ o ∷ []) ops (record { inner = inner; enclosing = enclosing })
    → m.sequences.items ≡ (sequences ++ ops ∷ []) ++ [] ∷ [] → m.frames.items ≡ frames → m.ops.items ≡ o.ops.items ++ op.If o.block_type k (length (sequences ++ ops ∷ [])) ∷ []
    → EndsAt inner enclosing false m
ends-if sequences frames ops o k inner [] m q n h es eo ep = absurd (frames-of sequences frames ops o _ h)
ends-if sequences frames ops o k inner (LastArm wrap ∷ enclosing) m q n h es eo ep =
    let p = frames-of sequences frames ops o _ h in
    absurd (subst (λ (r : FrameKind). IsFrame (codes_from [] sequences) o.ops.items o.block_type r (LastArm wrap)) q p.0)
ends-if sequences frames ops o k inner (ThenArm wrap ∷ enclosing) m q n h es eo ep =
    (refl, rw (es, eo, ep) (inner-ends (sequences ++ ops ∷ []) frames [] (second_of o k) (length (sequences ++ ops ∷ [])) _ (λ c. c) (wrap (inner End)) enclosing refl refl (else-begun sequences frames ops o k inner wrap enclosing q n h)))

-- the outermost sequence ends
pub ends-outermost : (sequences : List (List Op)) (ops : List Op) (inner : Code → Code) (enclosing : List Enclosing) (m : ExprBuilder)
    → StandsFor sequences [] ops (record { inner = inner; enclosing = enclosing }) → m.sequences.items ≡ sequences ++ ops ∷ [] → EndsAt inner enclosing true m
unfolding codes
ends-outermost sequences ops inner [] m h es =
    let e = number-tree sequences [] ops (record { inner = inner; enclosing = [] }) h in
    (refl, rw (es, e) (at-number sequences [] (inner End) (length (sequences ++ ops ∷ []) - 1) (omega (arith, length_push sequences ops))))
ends-outermost sequences ops inner (p ∷ enclosing) m h es = absurd h.enclosing
