-- How the bytes complete code that is still read.
use Rattle.std.proofs.Common.{◌≡◌, ℕ, inl, inr, List, [], ◌∷◌, Bool, true, false, refl, sym, ◌∙◌, subst}
use Rattle.std.specs.Prelude.{Option}
use Rattle.wasm_values.specs.declared.profile.Profile.{Profile}
use Rattle.wasm_types.specs.declared.types.ValType.{ValType}
use Rattle.wasm_types.specs.declared.instr.Op.{Op}
use Rattle.wasm_types.specs.Tree.{Code, End, Block, Loop, If, expr_tree}
use Rattle.wasm_spec.specs.InstrGrammar.{Closer, ByEnd, ByElse, closing_byte, TakesCode, TakesExpr}
use Rattle.instr_decode.specs.declared.token.BlockKind.{BlockKind}
use Rattle.instr_decode.specs.declared.token.BlockKind.TheVariants as block_kind
use Rattle.instr_decode.specs.declared.token.Token.TheVariants as token
use Rattle.instr_decode.specs.Tokens.{TakesLeaf, TakesToken}
use Rattle.instr_decode.specs.declared.expr_builder.ExprBuilder.{ExprBuilder}
use Rattle.instr_decode.specs.declared.fault.DecodeFault.{DecodeFault}
use Rattle.instr_decode.specs.Decoding.{BeginsWithNone}
use Rattle.instr_decode.proofs.Decoding.{begins-through}
use Rattle.instr_decode.proofs.Tokens.{Arms, first-token, behind, from-leaf}
use Rattle.instr_decode.specs.Contexts.{prepend, Enclosing, LastArm, ThenArm, ExprContext, RepresentsContext, pushed, opened, BeginsElseAt, BeginsElse, EndsAt, Ends}

-- where nothing has been read
abbrev pub start : ExprContext
start = record { inner = λ c. c; enclosing = [] }

module _ (profile : Profile) where
  -- the bytes go on with code up to a byte that closes it, and K holds of that byte, of the sequence with this code, and of
  -- the bytes behind profile it
  abbrev pub Completes : (Closer → Code → List ℕ → Type 0) → (Code → Code) → List ℕ → Type 0
  Completes K inner bytes = (k : Closer) × (c : Code) × (mid : List ℕ) × TakesCode profile k c bytes mid × K k (inner c) mid

  -- the byte that closes is an end
  abbrev pub Ended : (Code → List ℕ → Type 0) → Closer → Code → List ℕ → Type 0
  Ended P ByEnd c mid = P c mid
  Ended P ByElse c mid = ⊥

  -- once the innermost sequence is closed, the bytes complete the enclosing ones: the whole is t, and rest follows it
  abbrev pub CompletesEnclosing : Code → List ℕ → List Enclosing → Closer → Code → List ℕ → Type 0
  CompletesEnclosing t rest [] k c mid = Ended (λ d m. (t ≡ d) × (rest ≡ m)) k c mid
  CompletesEnclosing t rest (LastArm wrap ∷ enclosing) k c mid = Ended (λ d m. Completes (CompletesEnclosing t rest enclosing) (wrap d) m) k c mid
  CompletesEnclosing t rest (ThenArm wrap ∷ enclosing) ByEnd c mid = Completes (CompletesEnclosing t rest enclosing) (wrap c End) mid
  CompletesEnclosing t rest (ThenArm wrap ∷ enclosing) ByElse c mid = Completes (Ended (λ d m. Completes (CompletesEnclosing t rest enclosing) (wrap c d) m)) (λ d. d) mid

  -- from this place the bytes complete the whole, which is t, and rest follows it
  abbrev pub CompletesTo : ExprContext → List ℕ → Code → List ℕ → Type 0
  CompletesTo s bytes t rest = Completes (CompletesEnclosing t rest s.enclosing) s.inner bytes

  -- both places are completed alike
  pub record SameCompletions (s : ExprContext) (bytes : List ℕ) (s' : ExprContext) (bytes' : List ℕ) : Type 0 where
    pub to : (t : Code) (rest : List ℕ) → CompletesTo s bytes t rest → CompletesTo s' bytes' t rest
    pub from : (t : Code) (rest : List ℕ) → CompletesTo s' bytes' t rest → CompletesTo s bytes t rest

  -- behind profile a leaf
  pub same-pushed : (o : Op) (bytes more : List ℕ) (s : ExprContext) → TakesLeaf profile o bytes more → SameCompletions s bytes (pushed o s) more
  same-pushed o bytes more s a = record {
    to = λ t rest (k, c, mid, h, f).
        let b = behind profile (token.Leaf o) k c bytes more mid a h in
        (k, b.0, mid, b.2, subst (λ (x : Code). CompletesEnclosing t rest s.enclosing k (s.inner x) mid) b.1 f);
    from = λ t rest (k, c, mid, h, f). (k, prepend [] o c, mid, from-leaf profile o k c bytes more mid a h, f);
  }

  -- behind profile what opens a sequence
  module _ (bytes more : List ℕ) (s : ExprContext) (v : Option ValType) (t : Code) (rest : List ℕ) where
    to-block : TakesToken profile (token.Open block_kind.Block v) bytes more → CompletesTo s bytes t rest → CompletesTo (opened block_kind.Block v s) more t rest
    to-block a (k, c, mid, h, f) =
        let b = behind profile (token.Open block_kind.Block v) k c bytes more mid a h in
        (ByEnd, b.0, b.2, b.4, (k, b.1, mid, b.5, subst (λ (x : Code). CompletesEnclosing t rest s.enclosing k (s.inner x) mid) b.3 f))

    from-block : TakesToken profile (token.Open block_kind.Block v) bytes more → CompletesTo (opened block_kind.Block v s) more t rest → CompletesTo s bytes t rest
    from-block a (ByEnd, b, m, h, (k, d, mid, g, f)) = (k, Block v b d, mid, (a.0, a.1, more, a.2, m, h, g), f)
    from-block a (ByElse, b, m, h, f) = absurd f

    to-loop : TakesToken profile (token.Open block_kind.Loop v) bytes more → CompletesTo s bytes t rest → CompletesTo (opened block_kind.Loop v s) more t rest
    to-loop a (k, c, mid, h, f) =
        let b = behind profile (token.Open block_kind.Loop v) k c bytes more mid a h in
        (ByEnd, b.0, b.2, b.4, (k, b.1, mid, b.5, subst (λ (x : Code). CompletesEnclosing t rest s.enclosing k (s.inner x) mid) b.3 f))

    from-loop : TakesToken profile (token.Open block_kind.Loop v) bytes more → CompletesTo (opened block_kind.Loop v s) more t rest → CompletesTo s bytes t rest
    from-loop a (ByEnd, b, m, h, (k, d, mid, g, f)) = (k, Loop v b d, mid, (a.0, a.1, more, a.2, m, h, g), f)
    from-loop a (ByElse, b, m, h, f) = absurd f

    to-arms : (k : Closer) (c b e d : Code) (mid m : List ℕ) → c ≡ If v b e d → Arms profile b e more m → TakesCode profile k d m mid → CompletesEnclosing t rest s.enclosing k (s.inner c) mid → CompletesTo (opened block_kind.If v s) more t rest
    to-arms k c b e d mid m q (inl h) g f =
        (ByEnd, b, m, h.0, (k, d, mid, g, subst (λ (x : Code). CompletesEnclosing t rest s.enclosing k (s.inner (If v b x d)) mid) h.1 (subst (λ (x : Code). CompletesEnclosing t rest s.enclosing k (s.inner x) mid) q f)))
    to-arms k c b e d mid m q (inr h) g f =
        (ByElse, b, h.0, h.1, (ByEnd, e, m, h.2, (k, d, mid, g, subst (λ (x : Code). CompletesEnclosing t rest s.enclosing k (s.inner x) mid) q f)))

    to-if : TakesToken profile (token.Open block_kind.If v) bytes more → CompletesTo s bytes t rest → CompletesTo (opened block_kind.If v s) more t rest
    to-if a (k, c, mid, h, f) =
        let b = behind profile (token.Open block_kind.If v) k c bytes more mid a h in
        to-arms k c b.0 b.1 b.2 mid b.3 b.4 b.5 b.6 f

    from-if : TakesToken profile (token.Open block_kind.If v) bytes more → CompletesTo (opened block_kind.If v s) more t rest → CompletesTo s bytes t rest
    from-if a (ByEnd, b, m, h, (k, d, mid, g, f)) = (k, If v b End d, mid, (a.0, a.1, more, a.2, m, inl (h, refl), g), f)
    from-if a (ByElse, b, m, h, (ByEnd, e, n, i, (k, d, mid, g, f))) = (k, If v b e d, mid, (a.0, a.1, more, a.2, n, inr (m, h, i), g), f)
    from-if a (ByElse, b, m, h, (ByElse, e, n, i, f)) = absurd f

  pub same-opened : (o : BlockKind) (v : Option ValType) (bytes more : List ℕ) (s : ExprContext) → TakesToken profile (token.Open o v) bytes more → SameCompletions s bytes (opened o v s) more
  same-opened block_kind.Block v bytes more s a = record { to = λ t rest. to-block bytes more s v t rest a; from = λ t rest. from-block bytes more s v t rest a }
  same-opened block_kind.Loop v bytes more s a = record { to = λ t rest. to-loop bytes more s v t rest a; from = λ t rest. from-loop bytes more s v t rest a }
  same-opened block_kind.If v bytes more s a = record { to = λ t rest. to-if bytes more s v t rest a; from = λ t rest. from-if bytes more s v t rest a }

  -- behind profile what closes the innermost sequence
  pub to-closed : (K : Closer → Code → List ℕ → Type 0) (inner : Code → Code) (j : Closer) (bytes more : List ℕ) → bytes ≡ closing_byte j ∷ more → Completes K inner bytes → K j (inner End) more
  to-closed K inner ByEnd bytes more e (k, c, mid, h, f) =
      let b = behind profile token.End k c bytes more mid e h in
      subst (λ (z : Closer). K z (inner End) more) b.0 (subst (λ (x : Code). K k (inner x) more) b.1 (subst (λ (l : List ℕ). K k (inner c) l) b.2 f))
  to-closed K inner ByElse bytes more e (k, c, mid, h, f) =
      let b = behind profile token.Else k c bytes more mid e h in
      subst (λ (z : Closer). K z (inner End) more) b.0 (subst (λ (x : Code). K k (inner x) more) b.1 (subst (λ (l : List ℕ). K k (inner c) l) b.2 f))

  pub from-closed : (K : Closer → Code → List ℕ → Type 0) (inner : Code → Code) (j : Closer) (bytes more : List ℕ) → bytes ≡ closing_byte j ∷ more → K j (inner End) more → Completes K inner bytes
  from-closed K inner j bytes more e f = (j, End, more, e, f)

  pub same-start : (bytes : List ℕ) → SameCompletions start bytes start bytes
  same-start bytes = record { to = λ t rest h. h; from = λ t rest h. h }

  pub same-then : (r s t : ExprContext) (a b c : List ℕ) → SameCompletions r a s b → SameCompletions s b t c → SameCompletions r a t c
  same-then r s t a b c f g = record { to = λ x rest h. g.to x rest (f.to x rest h); from = λ x rest h. f.from x rest (g.from x rest h) }

  pub expr-to : (c : Code) (bytes rest : List ℕ) → TakesExpr profile c bytes rest → CompletesTo start bytes c rest
  expr-to c bytes rest h = (ByEnd, c, rest, h, (refl, refl))

  expr-of : (c : Code) (bytes rest : List ℕ) → CompletesTo start bytes c rest → TakesExpr profile c bytes rest
  expr-of c bytes rest (ByEnd, d, mid, h, e) = subst (λ (l : List ℕ). TakesExpr profile c bytes l) (sym e.1) (subst (λ (x : Code). TakesExpr profile x bytes mid) (sym e.0) h)
  expr-of c bytes rest (ByElse, d, mid, h, e) = absurd e

  -- no code where no token stands
  pub none-token : (s : ExprContext) (bytes here : List ℕ) (fault : DecodeFault) → SameCompletions start bytes s here → BeginsWithNone (TakesToken profile) here fault → BeginsWithNone (TakesExpr profile) bytes fault
  none-token s bytes here fault same none =
      begins-through (TakesToken profile) (TakesExpr profile) here bytes fault none (λ c rest h.
      let g = same.to c rest (expr-to c bytes rest h) in
      let f = first-token profile g.0 g.1 here g.2 g.3 in
      (f.first, f.more, f.begins))

  -- the place that a builder stands for, completed as this one is
  pub record IsReached (n : ExprBuilder) (s : ExprContext) (bytes more : List ℕ) : Type 0 where
    pub context : ExprContext
    pub stands : RepresentsContext n context
    pub same : SameCompletions s bytes context more

  -- an `else` in the first arm of an `if`
  else-at : (inner : Code → Code) (enclosing : List Enclosing) (begun : Bool) (n : ExprBuilder) (bytes more : List ℕ) → bytes ≡ 0x05 ∷ more → begun ≡ true → BeginsElseAt inner enclosing begun n
      → IsReached n (record { inner = inner; enclosing = enclosing }) bytes more
  else-at inner [] begun n bytes more e b t = absurd (let f : true ≡ false = sym b ∙ t in cc)
  else-at inner (LastArm wrap ∷ enclosing) begun n bytes more e b t = absurd (let f : true ≡ false = sym b ∙ t in cc)
  else-at inner (ThenArm wrap ∷ enclosing) begun n bytes more e b t = record {
    context = record { inner = λ c. c; enclosing = LastArm (wrap (inner End)) ∷ enclosing };
    stands = t.1;
    same = record {
      to = λ x rest h. to-closed (CompletesEnclosing x rest (ThenArm wrap ∷ enclosing)) inner ByElse bytes more e h;
      from = λ x rest h. from-closed (CompletesEnclosing x rest (ThenArm wrap ∷ enclosing)) inner ByElse bytes more e h;
    };
  }

  pub else-reached : (s : ExprContext) (begun : Bool) (n : ExprBuilder) (bytes more : List ℕ) → bytes ≡ 0x05 ∷ more → begun ≡ true → BeginsElse s begun n → IsReached n s bytes more
  else-reached s begun n bytes more e b t = else-at s.inner s.enclosing begun n bytes more e b t

  -- and elsewhere
  no-else : (inner : Code → Code) (enclosing : List Enclosing) (begun : Bool) (n : ExprBuilder) (more : List ℕ) (t : Code) (rest : List ℕ) → begun ≡ false → BeginsElseAt inner enclosing begun n
      → CompletesEnclosing t rest enclosing ByElse (inner End) more → ⊥
  no-else inner [] begun n more t rest b h a = a
  no-else inner (LastArm wrap ∷ enclosing) begun n more t rest b h a = a
  no-else inner (ThenArm wrap ∷ enclosing) begun n more t rest b h a = let f : true ≡ false = sym h.0 ∙ b in cc

  pub none-else : (s : ExprContext) (begun : Bool) (n : ExprBuilder) (bytes here more : List ℕ) → SameCompletions start bytes s here → here ≡ 0x05 ∷ more → begun ≡ false → BeginsElse s begun n
      → (c : Code) (rest : List ℕ) → TakesExpr profile c bytes rest → ⊥
  none-else s begun n bytes here more same e b t c rest h =
      no-else s.inner s.enclosing begun n more c rest b t (to-closed (CompletesEnclosing c rest s.enclosing) s.inner ByElse here more e (same.to c rest (expr-to c bytes rest h)))

  -- the end of an inner sequence
  end-at : (inner : Code → Code) (enclosing : List Enclosing) (ended : Bool) (n : ExprBuilder) (bytes more : List ℕ) → bytes ≡ 0x0B ∷ more → ended ≡ false → EndsAt inner enclosing ended n
      → IsReached n (record { inner = inner; enclosing = enclosing }) bytes more
  end-at inner [] ended n bytes more e b h = absurd (let f : true ≡ false = sym h.0 ∙ b in cc)
  end-at inner (LastArm wrap ∷ enclosing) ended n bytes more e b h = record {
    context = record { inner = wrap (inner End); enclosing = enclosing };
    stands = h.1;
    same = record {
      to = λ x rest g. to-closed (CompletesEnclosing x rest (LastArm wrap ∷ enclosing)) inner ByEnd bytes more e g;
      from = λ x rest g. from-closed (CompletesEnclosing x rest (LastArm wrap ∷ enclosing)) inner ByEnd bytes more e g;
    };
  }
  end-at inner (ThenArm wrap ∷ enclosing) ended n bytes more e b h = record {
    context = record { inner = wrap (inner End) End; enclosing = enclosing };
    stands = h.1;
    same = record {
      to = λ x rest g. to-closed (CompletesEnclosing x rest (ThenArm wrap ∷ enclosing)) inner ByEnd bytes more e g;
      from = λ x rest g. from-closed (CompletesEnclosing x rest (ThenArm wrap ∷ enclosing)) inner ByEnd bytes more e g;
    };
  }

  pub end-reached : (s : ExprContext) (ended : Bool) (n : ExprBuilder) (bytes more : List ℕ) → bytes ≡ 0x0B ∷ more → ended ≡ false → Ends s ended n → IsReached n s bytes more
  end-reached s ended n bytes more e b h = end-at s.inner s.enclosing ended n bytes more e b h

  -- and of the outermost one
  whole-at : (inner : Code → Code) (enclosing : List Enclosing) (ended : Bool) (n : ExprBuilder) (bytes from more : List ℕ) (tree : Code) → SameCompletions start bytes (record { inner = inner; enclosing = enclosing }) from
      → from ≡ 0x0B ∷ more → ended ≡ true → EndsAt inner enclosing ended n → tree ≡ expr_tree (record { sequences = n.sequences.items }) → TakesExpr profile tree bytes more
  whole-at inner [] ended n bytes from more tree same e b h q =
      subst (λ (x : Code). TakesExpr profile x bytes more) (sym (q ∙ h.1))
      (expr-of (inner End) bytes more (same.from (inner End) more (from-closed (CompletesEnclosing (inner End) more []) inner ByEnd from more e (refl, refl))))
  whole-at inner (LastArm wrap ∷ enclosing) ended n bytes from more tree same e b h q = absurd (let f : true ≡ false = sym b ∙ h.0 in cc)
  whole-at inner (ThenArm wrap ∷ enclosing) ended n bytes from more tree same e b h q = absurd (let f : true ≡ false = sym b ∙ h.0 in cc)

  pub whole-read : (s : ExprContext) (ended : Bool) (n : ExprBuilder) (bytes from more : List ℕ) (tree : Code) → SameCompletions start bytes s from
      → from ≡ 0x0B ∷ more → ended ≡ true → Ends s ended n → tree ≡ expr_tree (record { sequences = n.sequences.items }) → TakesExpr profile tree bytes more
  whole-read s ended n bytes from more tree same e b h q = whole-at s.inner s.enclosing ended n bytes from more tree same e b h q
