-- What an expression builder stands for: code that is still read.
use Rattle.std.specs.Prelude.{◌≡◌, List, [], ◌∷◌, ◌++◌, Bool, true, false, Option, get_or, reverse}
use Rattle.wasm_types.specs.declared.types.ValType.{ValType}
use Rattle.wasm_types.specs.declared.instr.Op.{Op}
use Rattle.wasm_types.specs.declared.instr.Op.TheVariants as op
use Rattle.wasm_types.specs.Tree.{Code, End, Plain, Block, Loop, If, Call, CallIndirect, codes_from, expr_tree}
use Rattle.instr_decode.specs.declared.token.BlockKind.{BlockKind}
use Rattle.instr_decode.specs.declared.token.BlockKind.TheVariants as block_kind
use Rattle.instr_decode.specs.declared.expr_builder.FrameKind.{FrameKind}
use Rattle.instr_decode.specs.declared.expr_builder.FrameKind.TheVariants as kind
use Rattle.instr_decode.specs.declared.expr_builder.Frame.{Frame}
use Rattle.instr_decode.specs.declared.expr_builder.ExprBuilder.{ExprBuilder}

-- an instruction and what follows it, where `all` has the trees of the sequences
abbrev pub prepend : List Code → Op → Code → Code
prepend all (op.Plain i) c = Plain i c
prepend all (op.Block t k) c = Block t (get_or all k End) c
prepend all (op.Loop t k) c = Loop t (get_or all k End) c
prepend all (op.If t k j) c = If t (get_or all k End) (get_or all j End) c
prepend all (op.Call x) c = Call x c
prepend all (op.CallIndirect x) c = CallIndirect x c

-- instructions, and what follows them
abbrev pub prepend_all : List Code → List Op → Code → Code
prepend_all all [] c = c
prepend_all all (o ∷ ops) c = prepend all o (prepend_all all ops c)

-- an enclosing sequence, as a function of what is to come: of the code of the sequence inside and of the code behind it;
-- or, where the one inside is the first arm of an `if`, of the code of both arms and of the code behind them
pub data Enclosing : Type 0 where
  LastArm : (wrap : Code → Code → Code) → Enclosing
  ThenArm : (wrap : Code → Code → Code → Code) → Enclosing

-- code that is still read: the innermost sequence as a function of the code to come, and those that enclose it, from the
-- inside outwards
pub record ExprContext : Type 0 where
  pub inner : Code → Code
  pub enclosing : List Enclosing

-- a frame, with these instructions, block type and kind, is this enclosing sequence over the trees of the sequences that
-- have ended, whichever sequences end later
abbrev pub IsFrame : List Code → List Op → Option ValType → FrameKind → Enclosing → Type 0
IsFrame earlier ops t kind.Block (LastArm wrap) = (more : List Code) (b c : Code) → prepend_all (earlier ++ more) ops (Block t b c) ≡ wrap b c
IsFrame earlier ops t kind.Loop (LastArm wrap) = (more : List Code) (b c : Code) → prepend_all (earlier ++ more) ops (Loop t b c) ≡ wrap b c
IsFrame earlier ops t kind.If (ThenArm wrap) = (more : List Code) (b d c : Code) → prepend_all (earlier ++ more) ops (If t b d c) ≡ wrap b d c
IsFrame earlier ops t (kind.Else k) (LastArm wrap) =
    (more : List Code) (b c : Code) → prepend_all (earlier ++ more) ops (If t (get_or (earlier ++ more) k End) b c) ≡ wrap b c
IsFrame earlier ops t _ _ = ⊥

abbrev pub AreFrames : List Code → List Frame → List Enclosing → Type 0
AreFrames earlier [] [] = Unit {0}
AreFrames earlier (o ∷ frames) (p ∷ enclosing) = IsFrame earlier o.ops.items o.block_type o.kind p × AreFrames earlier frames enclosing
AreFrames earlier _ _ = ⊥

-- and so of all parts of a builder
pub record StandsFor (sequences : List (List Op)) (frames : List Frame) (ops : List Op) (s : ExprContext) : Type 0 where
  pub inner : (more : List Code) (c : Code) → prepend_all (codes_from [] sequences ++ more) ops c ≡ s.inner c
  pub enclosing : AreFrames (codes_from [] sequences) (reverse frames) s.enclosing

abbrev pub RepresentsContext : ExprBuilder → ExprContext → Type 0
RepresentsContext n s = StandsFor n.sequences.items n.frames.items n.ops.items s

-- whatever code the old builder stands for, the new one stands for that code after this step
abbrev pub Steps : ExprBuilder → ExprBuilder → (ExprContext → ExprContext) → Type 0
Steps old new step = (s : ExprContext) → RepresentsContext old s → RepresentsContext new (step s)

-- the steps: a leaf, and a sequence that opens inside
abbrev pub pushed : Op → ExprContext → ExprContext
pushed o s = record { inner = λ c. s.inner (prepend [] o c); enclosing = s.enclosing }

abbrev pub enclosing_of : BlockKind → Option ValType → (Code → Code) → Enclosing
enclosing_of block_kind.Block t inner = LastArm (λ b c. inner (Block t b c))
enclosing_of block_kind.Loop t inner = LastArm (λ b c. inner (Loop t b c))
enclosing_of block_kind.If t inner = ThenArm (λ b d c. inner (If t b d c))

abbrev pub opened : BlockKind → Option ValType → ExprContext → ExprContext
opened o t s = record { inner = λ c. c; enclosing = enclosing_of o t s.inner ∷ s.enclosing }

-- the second arm of an `if` begins, if the first is the innermost sequence
abbrev pub BeginsElseAt : (Code → Code) → List Enclosing → Bool → ExprBuilder → Type 0
BeginsElseAt inner (ThenArm wrap ∷ enclosing) begun n = (begun ≡ true) × RepresentsContext n (record { inner = λ c. c; enclosing = LastArm (wrap (inner End)) ∷ enclosing })
BeginsElseAt inner _ begun n = begun ≡ false

abbrev pub BeginsElse : ExprContext → Bool → ExprBuilder → Type 0
BeginsElse s begun n = BeginsElseAt s.inner s.enclosing begun n

-- the innermost sequence ends, and the expression with it if that is the outermost one
abbrev pub EndsAt : (Code → Code) → List Enclosing → Bool → ExprBuilder → Type 0
EndsAt inner [] ended n = (ended ≡ true) × (expr_tree (record { sequences = n.sequences.items }) ≡ inner End)
EndsAt inner (LastArm wrap ∷ enclosing) ended n = (ended ≡ false) × RepresentsContext n (record { inner = wrap (inner End); enclosing = enclosing })
EndsAt inner (ThenArm wrap ∷ enclosing) ended n = (ended ≡ false) × RepresentsContext n (record { inner = wrap (inner End) End; enclosing = enclosing })

abbrev pub Ends : ExprContext → Bool → ExprBuilder → Type 0
Ends s ended n = EndsAt s.inner s.enclosing ended n
