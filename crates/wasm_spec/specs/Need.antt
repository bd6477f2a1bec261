-- How many operands, locals and labels a function's frame holds at once.
--
-- Operands are counted by the typing rules (Core Specification 1.0, section 3.3), by heights alone.
use Rattle.std.specs.Prelude.{ℕ, ◌+◌, ◌-◌, [], length, max}
use Rattle.wasm_types.specs.Tree.{Code, End, Plain, Block, Loop, If, Call, CallIndirect, FunctionTree, ModuleTree}
use Rattle.wasm_spec.specs.Typing.{result_types, Context, under, Rule, Fixed, Diverges, Drops, Selects, Wrong, rule, call_rule, call_indirect_rule, body_context}

-- how many operands of the innermost block are left. Where none is, a pop leaves none; what isn't reached begins with none.
abbrev pub height : Rule → ℕ → ℕ
height (Fixed takes gives) h = (h - length takes) + length gives
height (Diverges takes) h = 0
height Drops h = h - 1
height Selects h = (h - 3) + 1
height Wrong h = h

-- the greatest number of operands at any place of the code: `base` lie below its block, and it begins with h of its own
abbrev pub highest : (base : ℕ) → Context → Code → (h : ℕ) → ℕ
highest base C End h = base + h
highest base C (Plain i rest) h = max (base + h) (highest base C rest (height (rule C i) h))
highest base C (Block t body rest) h =
    max (highest (base + h) (under (result_types t) C) body 0) (highest base C rest (h + length (result_types t)))
highest base C (Loop t body rest) h =
    max (highest (base + h) (under [] C) body 0) (highest base C rest (h + length (result_types t)))
highest base C (If t first second rest) h =
    max (base + h)
    (max (max (highest (base + (h - 1)) (under (result_types t) C) first 0) (highest (base + (h - 1)) (under (result_types t) C) second 0))
    (highest base C rest ((h - 1) + length (result_types t))))
highest base C (Call x rest) h = max (base + h) (highest base C rest (height (call_rule C x) h))
highest base C (CallIndirect x rest) h = max (base + h) (highest base C rest (height (call_indirect_rule C x) h))

-- the greatest number of labels at any place of the code, which itself lies under `depth` of them
abbrev pub deepest : (depth : ℕ) → Code → ℕ
deepest depth End = depth
deepest depth (Plain i rest) = deepest depth rest
deepest depth (Block t body rest) = max (deepest (depth + 1) body) (deepest depth rest)
deepest depth (Loop t body rest) = max (deepest (depth + 1) body) (deepest depth rest)
deepest depth (If t first second rest) = max (max (deepest (depth + 1) first) (deepest (depth + 1) second)) (deepest depth rest)
deepest depth (Call x rest) = deepest depth rest
deepest depth (CallIndirect x rest) = deepest depth rest

-- a function's parameters and locals, its greatest number of operands, and its greatest number of labels, its own among them.
-- The results are operands where they stand on the stack; the end of code that isn't reached puts none there.
abbrev pub need : ModuleTree → FunctionTree → ℕ
need m f = length (body_context m f).locals + highest 0 (body_context m f) f.body 0 + deepest 1 f.body
