-- What code needs is at least what it begins with.
use Rattle.std.proofs.Common.{ℕ, ◌+◌, ◌≤◌, [], arith}
use Rattle.wasm_types.specs.Tree.{Code, End, Plain, Block, Loop, If, Call, CallIndirect}
use Rattle.wasm_spec.specs.Typing.{result_types, Context, under}
use Rattle.wasm_spec.specs.Need.{highest, deepest}

pub highest-least : (base : ℕ) (C : Context) (code : Code) (h : ℕ) → base + h ≤ highest base C code h
highest-least base C End h = omega arith
highest-least base C (Plain i rest) h = omega arith
highest-least base C (Block t body rest) h = omega (arith, highest-least (base + h) (under (result_types t) C) body 0)
highest-least base C (Loop t body rest) h = omega (arith, highest-least (base + h) (under [] C) body 0)
highest-least base C (If t first second rest) h = omega arith
highest-least base C (Call x rest) h = omega arith
highest-least base C (CallIndirect x rest) h = omega arith

pub deepest-least : (depth : ℕ) (code : Code) → depth ≤ deepest depth code
deepest-least depth End = omega arith
deepest-least depth (Plain i rest) = deepest-least depth rest
deepest-least depth (Block t body rest) = omega (arith, deepest-least depth rest)
deepest-least depth (Loop t body rest) = omega (arith, deepest-least depth rest)
deepest-least depth (If t first second rest) = omega (arith, deepest-least depth rest)
deepest-least depth (Call x rest) = deepest-least depth rest
deepest-least depth (CallIndirect x rest) = deepest-least depth rest
