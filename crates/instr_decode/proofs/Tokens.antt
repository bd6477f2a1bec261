-- Tokens: bytes begin with at most one, and code begins with one.
use Rattle.std.proofs.Common.{◌≡◌, ℕ, ◌≤◌, ◌⊎◌, List, [], ◌∷◌, refl, sym, ap, ◌∙◌, subst, arith}
use Rattle.std.specs.Prelude.{Option}
use Rattle.wasm_types.specs.declared.types.ValType.{ValType}
use Rattle.wasm_types.specs.declared.instr.Instr.{Instr}
use Rattle.wasm_types.specs.declared.instr.Op.{Op}
use Rattle.wasm_types.specs.declared.instr.Op.TheVariants as op
use Rattle.wasm_types.specs.Tree.{Code, End, Plain, Block, Loop, If, Call, CallIndirect}
use Rattle.wasm_values.specs.declared.profile.Profile.{Profile}
use Rattle.wasm_spec.specs.Numbers.{TakesUnsigned, IsUnambiguous}
use Rattle.wasm_spec.specs.TypeGrammar.{TakesBlockType}
use Rattle.wasm_spec.specs.InstrGrammar.{shape, Closer, ByEnd, ByElse, TakesCode}
use Rattle.wasm_spec.proofs.UnambiguousNumbers.{same_others, unsigned-unique}
use Rattle.wasm_spec.proofs.UnambiguousTypes.{block_type-unique}
use Rattle.wasm_spec.proofs.UnambiguousInstrs.{closes, instr-unique, lead, opens, plain_lead}
use Rattle.instr_decode.specs.declared.token.BlockKind.{BlockKind}
use Rattle.instr_decode.specs.declared.token.BlockKind.TheVariants as block_kind
use Rattle.instr_decode.specs.declared.token.Token.{Token}
use Rattle.instr_decode.specs.declared.token.Token.TheVariants as token
use Rattle.instr_decode.specs.Tokens.{block_byte, TakesLeaf, TakesToken, TakesIndexAndZero}
use Rattle.instr_decode.specs.declared.fault.DecodeFault.{DecodeFault}
use Rattle.instr_decode.specs.Decoding.{BeginsWithNone}
use Rattle.instr_decode.proofs.Decoding.{begins-through}
use Rattle.instr_decode.specs.Contexts.{prepend}

-- what a token begins with
abbrev pub token_lead : Token → ℕ
token_lead (token.Leaf (op.Plain i)) = 256
token_lead (token.Leaf (op.Call x)) = 0x10
token_lead (token.Leaf (op.CallIndirect x)) = 0x11
token_lead (token.Leaf _) = 300
token_lead (token.Open o t) = block_byte o
token_lead token.Else = 0x05
token_lead token.End = 0x0B

module _ (profile : Profile) where
  block-leads : (o : BlockKind) (bytes : List ℕ) → lead profile (block_byte o ∷ bytes) ≡ block_byte o
  unfolding lead
  block-leads block_kind.Block bytes = let o = opens profile in o.0
  block-leads block_kind.Loop bytes = let o = opens profile in o.1
  block-leads block_kind.If bytes = let o = opens profile in o.2

  pub token-leads : (k : Token) (bytes rest : List ℕ) → TakesToken profile k bytes rest → lead profile bytes ≡ token_lead k
  unfolding lead
  token-leads (token.Leaf (op.Plain i)) bytes rest h = ap (lead profile) h.leads ∙ plain_lead (shape profile h.opcode) h.opcode i h.after rest h.follows
  token-leads (token.Leaf (op.Call x)) bytes rest h = let o = opens profile in ap (lead profile) h.1 ∙ o.3
  token-leads (token.Leaf (op.CallIndirect x)) bytes rest h = let o = opens profile in ap (lead profile) h.1 ∙ o.4
  token-leads (token.Leaf _) bytes rest h = absurd h
  token-leads (token.Open o t) bytes rest h = ap (lead profile) h.1 ∙ block-leads o h.0
  token-leads token.Else bytes rest h = ap (lead profile) h ∙ closes profile ByElse rest
  token-leads token.End bytes rest h = ap (lead profile) h ∙ closes profile ByEnd rest

  same_lead : (k l : Token) (bytes r s : List ℕ) → TakesToken profile k bytes r → TakesToken profile l bytes s → token_lead k ≡ token_lead l
  same_lead k l bytes r s a b = sym (token-leads k bytes r a) ∙ token-leads l bytes s b

  same_block : (o p : BlockKind) → block_byte o ≡ block_byte p → o ≡ p
  same_block block_kind.Block block_kind.Block e = refl
  same_block block_kind.Loop block_kind.Loop e = refl
  same_block block_kind.If block_kind.If e = refl
  same_block block_kind.Block _ e = absurd (omega (arith, e))
  same_block block_kind.Loop _ e = absurd (omega (arith, e))
  same_block block_kind.If _ e = absurd (omega (arith, e))

  block-low : (o : BlockKind) → block_byte o ≤ 4
  block-low block_kind.Block = omega arith
  block-low block_kind.Loop = omega arith
  block-low block_kind.If = omega arith

  leaf-high : (o : Op) (bytes r : List ℕ) → TakesLeaf profile o bytes r → 16 ≤ token_lead (token.Leaf o)
  leaf-high (op.Plain i) bytes r h = omega arith
  leaf-high (op.Call x) bytes r h = omega arith
  leaf-high (op.CallIndirect x) bytes r h = omega arith
  leaf-high _ bytes r h = absurd h

  pub token-unique : IsUnambiguous (TakesToken profile)
  token-unique (token.Leaf (op.Plain i)) (token.Leaf (op.Plain j)) bytes r s a b =
      let u = instr-unique profile i j bytes r s a b in
      (ap (λ (z : Instr). token.Leaf (op.Plain z)) u.0, u.1)
  token-unique (token.Leaf (op.Call x)) (token.Leaf (op.Call y)) bytes r s a b =
      let u = unsigned-unique 32 x y a.0 r s a.2 (subst (λ (l : List ℕ). TakesUnsigned 32 y l s) (sym (same_others a.1 b.1)) b.2) in
      (ap (λ (z : ℕ). token.Leaf (op.Call z)) u.0, u.1)
  token-unique (token.Leaf (op.CallIndirect x)) (token.Leaf (op.CallIndirect y)) bytes r s a b =
      let u = unsigned-unique 32 x y a.0 (0 ∷ r) (0 ∷ s) a.2 (subst (λ (l : List ℕ). TakesUnsigned 32 y l (0 ∷ s)) (sym (same_others a.1 b.1)) b.2) in
      (ap (λ (z : ℕ). token.Leaf (op.CallIndirect z)) u.0, same_others refl u.1)
  token-unique (token.Open o t) (token.Open p u) bytes r s a b =
      let e = same_block o p (same_lead (token.Open o t) (token.Open p u) bytes r s a b) in
      let v = block_type-unique t u a.0 r s a.2 (subst (λ (l : List ℕ). TakesBlockType u l s) (sym (same_others a.1 b.1)) b.2) in
      (ap (λ (z : BlockKind). token.Open z t) e ∙ ap (λ (z : Option ValType). token.Open p z) v.0, v.1)
  token-unique token.Else token.Else bytes r s a b = (refl, same_others a b)
  token-unique token.End token.End bytes r s a b = (refl, same_others a b)
  token-unique (token.Leaf (op.Block t n)) l bytes r s a b = absurd a
  token-unique (token.Leaf (op.Loop t n)) l bytes r s a b = absurd a
  token-unique (token.Leaf (op.If t n m)) l bytes r s a b = absurd a
  token-unique (token.Leaf o) (token.Leaf p) bytes r s a b = absurd (omega (arith, same_lead (token.Leaf o) (token.Leaf p) bytes r s a b))
  token-unique (token.Leaf o) (token.Open p u) bytes r s a b = absurd (omega (arith, leaf-high o bytes r a, block-low p, same_lead (token.Leaf o) (token.Open p u) bytes r s a b))
  token-unique (token.Leaf o) l bytes r s a b = absurd (omega (arith, leaf-high o bytes r a, same_lead (token.Leaf o) l bytes r s a b))
  token-unique (token.Open o t) (token.Leaf p) bytes r s a b = absurd (omega (arith, block-low o, leaf-high p bytes s b, same_lead (token.Open o t) (token.Leaf p) bytes r s a b))
  token-unique k (token.Leaf p) bytes r s a b = absurd (omega (arith, leaf-high p bytes s b, same_lead k (token.Leaf p) bytes r s a b))
  token-unique (token.Open o t) l bytes r s a b = absurd (omega (arith, block-low o, same_lead (token.Open o t) l bytes r s a b))
  token-unique k (token.Open p u) bytes r s a b = absurd (omega (arith, block-low p, same_lead k (token.Open p u) bytes r s a b))
  token-unique k l bytes r s a b = absurd (omega (arith, same_lead k l bytes r s a b))

  -- what follows a token whose opcode has been read
  open-is : (k : Token) (o : BlockKind) (bytes after rest : List ℕ) → bytes ≡ block_byte o ∷ after → TakesToken profile k bytes rest → (t : Option ValType) × TakesBlockType t after rest
  open-is (token.Open p t) o bytes after rest e h = (t, subst (λ (l : List ℕ). TakesBlockType t l rest) (same_others h.1 e) h.2)
  open-is (token.Leaf x) o bytes after rest e h =
      absurd (omega (arith, leaf-high x bytes rest h, block-low o, token-leads (token.Leaf x) bytes rest h, ap (lead profile) e, block-leads o after))
  open-is k o bytes after rest e h = absurd (omega (arith, block-low o, token-leads k bytes rest h, ap (lead profile) e, block-leads o after))

  call-leads : (bytes after : List ℕ) → bytes ≡ 0x10 ∷ after → lead profile bytes ≡ 0x10
  unfolding lead
  call-leads bytes after e = let o = opens profile in ap (lead profile) e ∙ o.3

  call_indirect-leads : (bytes after : List ℕ) → bytes ≡ 0x11 ∷ after → lead profile bytes ≡ 0x11
  unfolding lead
  call_indirect-leads bytes after e = let o = opens profile in ap (lead profile) e ∙ o.4

  call-is : (k : Token) (bytes after rest : List ℕ) → bytes ≡ 0x10 ∷ after → TakesToken profile k bytes rest → (x : ℕ) × TakesUnsigned 32 x after rest
  call-is (token.Leaf (op.Call x)) bytes after rest e h = (x, subst (λ (l : List ℕ). TakesUnsigned 32 x l rest) (same_others h.1 e) h.2)
  call-is (token.Open o t) bytes after rest e h = absurd (omega (arith, block-low o, token-leads (token.Open o t) bytes rest h, call-leads bytes after e))
  call-is k bytes after rest e h = absurd (omega (arith, token-leads k bytes rest h, call-leads bytes after e))

  call_indirect-is : (k : Token) (bytes after rest : List ℕ) → bytes ≡ 0x11 ∷ after → TakesToken profile k bytes rest → (x : ℕ) × TakesIndexAndZero x after rest
  call_indirect-is (token.Leaf (op.CallIndirect x)) bytes after rest e h = (x, subst (λ (l : List ℕ). TakesIndexAndZero x l rest) (same_others h.1 e) h.2)
  call_indirect-is (token.Open o t) bytes after rest e h = absurd (omega (arith, block-low o, token-leads (token.Open o t) bytes rest h, call_indirect-leads bytes after e))
  call_indirect-is k bytes after rest e h = absurd (omega (arith, token-leads k bytes rest h, call_indirect-leads bytes after e))

  pub none-open : (o : BlockKind) (bytes after : List ℕ) (fault : DecodeFault) → bytes ≡ block_byte o ∷ after → BeginsWithNone TakesBlockType after fault → BeginsWithNone (TakesToken profile) bytes fault
  none-open o bytes after fault e none =
      begins-through TakesBlockType (TakesToken profile) after bytes fault none (λ k rest h. let g = open-is k o bytes after rest e h in (g.0, rest, g.1))

  pub none-call_indirect : (bytes after : List ℕ) (fault : DecodeFault) → bytes ≡ 0x11 ∷ after → BeginsWithNone TakesIndexAndZero after fault → BeginsWithNone (TakesToken profile) bytes fault
  none-call_indirect bytes after fault e none =
      begins-through TakesIndexAndZero (TakesToken profile) after bytes fault none (λ k rest h. let g = call_indirect-is k bytes after rest e h in (g.0, rest, g.1))

  pub none-call : (bytes after : List ℕ) → bytes ≡ 0x10 ∷ after → ((x : ℕ) (rest : List ℕ) → TakesUnsigned 32 x after rest → ⊥) → (k : Token) (rest : List ℕ) → TakesToken profile k bytes rest → ⊥
  none-call bytes after e none k rest h = let g = call-is k bytes after rest e h in none g.0 rest g.1

  -- the arms of an `if`
  abbrev pub Arms : Code → Code → List ℕ → List ℕ → Type 0
  Arms first second inner mid =
      (TakesCode profile ByEnd first inner mid × (second ≡ End))
      ⊎ ((middle : List ℕ) × TakesCode profile ByElse first inner middle × TakesCode profile ByEnd second middle mid)

  -- how code that begins with a token goes on behind it
  abbrev pub Follows : Token → Closer → Code → List ℕ → List ℕ → Type 0
  Follows (token.Leaf o) k c more rest = (d : Code) × (c ≡ prepend [] o d) × TakesCode profile k d more rest
  Follows (token.Open block_kind.Block t) k c more rest =
      (b d : Code) × (mid : List ℕ) × (c ≡ Block t b d) × TakesCode profile ByEnd b more mid × TakesCode profile k d mid rest
  Follows (token.Open block_kind.Loop t) k c more rest =
      (b d : Code) × (mid : List ℕ) × (c ≡ Loop t b d) × TakesCode profile ByEnd b more mid × TakesCode profile k d mid rest
  Follows (token.Open block_kind.If t) k c more rest =
      (b e d : Code) × (mid : List ℕ) × (c ≡ If t b e d) × Arms b e more mid × TakesCode profile k d mid rest
  Follows token.Else k c more rest = (k ≡ ByElse) × (c ≡ End) × (rest ≡ more)
  Follows token.End k c more rest = (k ≡ ByEnd) × (c ≡ End) × (rest ≡ more)

  -- the token that code begins with, and what follows it
  pub record FirstToken (k : Closer) (c : Code) (bytes rest : List ℕ) : Type 0 where
    pub first : Token
    pub more : List ℕ
    pub begins : TakesToken profile first bytes more
    pub follows : Follows first k c more rest

  pub first-token : (k : Closer) (c : Code) (bytes rest : List ℕ) → TakesCode profile k c bytes rest → FirstToken k c bytes rest
  first-token ByEnd End bytes rest h = record { first = token.End; more = rest; begins = h; follows = (refl, refl, refl) }
  first-token ByElse End bytes rest h = record { first = token.Else; more = rest; begins = h; follows = (refl, refl, refl) }
  first-token k (Plain i c) bytes rest h = record { first = token.Leaf (op.Plain i); more = h.0; begins = h.1; follows = (c, refl, h.2) }
  first-token k (Block t b d) bytes rest h =
      record { first = token.Open block_kind.Block t; more = h.2; begins = (h.0, h.1, h.3); follows = (b, d, h.4, refl, h.5, h.6) }
  first-token k (Loop t b d) bytes rest h =
      record { first = token.Open block_kind.Loop t; more = h.2; begins = (h.0, h.1, h.3); follows = (b, d, h.4, refl, h.5, h.6) }
  first-token k (If t b e d) bytes rest h =
      record { first = token.Open block_kind.If t; more = h.2; begins = (h.0, h.1, h.3); follows = (b, e, d, h.4, refl, h.5, h.6) }
  first-token k (Call x c) bytes rest h =
      record { first = token.Leaf (op.Call x); more = h.2; begins = (h.0, h.1, h.3); follows = (c, refl, h.4) }
  first-token k (CallIndirect x c) bytes rest h =
      record { first = token.Leaf (op.CallIndirect x); more = h.2; begins = (h.0, h.1, h.3); follows = (c, refl, h.4) }

  -- behind a token that has been read
  pub behind : (t : Token) (k : Closer) (c : Code) (bytes more rest : List ℕ) → TakesToken profile t bytes more → TakesCode profile k c bytes rest → Follows t k c more rest
  behind t k c bytes more rest a h =
      let f = first-token k c bytes rest h in
      let u = token-unique f.first t bytes f.more more f.begins a in
      subst (λ (l : List ℕ). Follows t k c l rest) u.1 (subst (λ (z : Token). Follows z k c f.more rest) u.0 f.follows)

  -- code of a token and what follows it
  pub from-leaf : (o : Op) (k : Closer) (c : Code) (bytes more rest : List ℕ) → TakesLeaf profile o bytes more → TakesCode profile k c more rest → TakesCode profile k (prepend [] o c) bytes rest
  from-leaf (op.Plain i) k c bytes more rest a h = (more, a, h)
  from-leaf (op.Call x) k c bytes more rest a h = (a.0, a.1, more, a.2, h)
  from-leaf (op.CallIndirect x) k c bytes more rest a h = (a.0, a.1, more, a.2, h)
  from-leaf _ k c bytes more rest a h = absurd a
