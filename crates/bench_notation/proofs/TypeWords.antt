-- Which words are no types.
use Rattle.std.proofs.Common.{ℕ, List, [], ◌∷◌, ◌≡◌, ◌≤◌, ◌+◌, ◌++◌, Bool, true, false, ap, arith}
use Rattle.std.proofs.Common.{append_assoc, codes, get_or, length, length-append, refl, subst, sym, ◌∙◌}
use Rattle.std.proofs.lemmas.List.{append_cancel_left, append_cancel_right}
use Rattle.std.proofs.Math.Seq.{get_or-append_seam}
use Rattle.graphql_nodes.specs.NameSyntax.{IsName, IsNameContinue}
use Rattle.graphql_nodes.specs.NameView.{NameView}
use Rattle.graphql_ast.specs.TypeReferences.{inner_name}
use Rattle.graphql_ast.specs.declared.type_reference.Type.{«Type» as TypeReference, roll-Type, fold-roll-Type}
use Rattle.graphql_ast.specs.declared.type_reference.Type.TheViews.{roll-out-Type}
use Rattle.graphql_ast.specs.declared.type_reference.Type.TheOpen.{Type-F}
use Rattle.bench_notation.specs.Refusals.{IsBody, IsNoType}
use Rattle.bench_notation.specs.Text.{opened_brackets, type_text}

-- a name does not begin with a bracket
begins : (rest : List ℕ) → ¬ IsName (codes "[" ++ rest)
begins rest h = grind (arith, h.0)

not_continued : ¬ IsNameContinue 33
not_continued h = grind (arith, h)

-- a name does not end with `!`
ends_name : (front : List ℕ) → ¬ IsName (front ++ codes "!")
ends_name [] h = grind (arith, h.0)
ends_name (c ∷ cs) h = not_continued (subst IsNameContinue (get_or-append_seam cs 33 [] 0)
    (h.1 (length cs) 0 (omega (arith, length-append cs (codes "!")))))

-- no text ends with both
ends : (x y : List ℕ) → ¬ (x ++ codes "]" ≡ y ++ codes "!")
ends x y e =
    let same : length x ≡ length y =
    omega (arith, ap length e, length-append x (codes "]"), length-append y (codes "!")) in
    let last : 93 ≡ 33 = sym (get_or-append_seam x 93 [] 0) ∙ ap (λ (l : List ℕ). get_or l (length x) 0) e
    ∙ ap (λ (n : ℕ). get_or (y ++ codes "!") n 0) same ∙ get_or-append_seam y 33 [] 0 in
    absurd (omega (arith, last))

-- the text of a required list is the list's, and `!`
pub required : (inner : List ℕ)
    → codes "[" ++ inner ++ codes "]!" ≡ (codes "[" ++ inner ++ codes "]") ++ codes "!"
required inner = ap (λ (l : List ℕ). 91 ∷ l) (sym (append_assoc inner _ _))

abbrev IsNoneOf : ℕ → List ℕ → TypeReference → Type 0
IsNoneOf brackets word ty = type_text ty ≡ word → opened_brackets ty ≤ brackets
    → ¬ IsName (inner_name ty).text

-- what a word has to differ from
record Differs (brackets : ℕ) (word : List ℕ) : Type 0 where
  name : (n : NameView) → n.text ≡ word → ¬ IsName n.text
  required_name : (n : NameView) → n.text ++ codes "!" ≡ word → ¬ IsName n.text
  list : (t : TypeReference) → codes "[" ++ type_text t ++ codes "]" ≡ word → opened_brackets t + 1 ≤ brackets
      → ¬ IsName (inner_name t).text
  required_list : (t : TypeReference) → codes "[" ++ type_text t ++ codes "]!" ≡ word → opened_brackets t
      + 1 ≤ brackets → ¬ IsName (inner_name t).text

of_layer : (brackets : ℕ) (word : List ℕ) → Differs brackets word → (z : Type-F TypeReference)
    → IsNoneOf brackets word (roll-Type z)
of_layer brackets word d (Type-F.Named n) text depth name =
    d.name n (rw fold-roll-Type at text) (rw fold-roll-Type at name)
of_layer brackets word d (Type-F.NonNullNamed n) text depth name =
    d.required_name n (rw fold-roll-Type at text) (rw fold-roll-Type at name)
of_layer brackets word d (Type-F.List t) text depth name =
    d.list t (rw fold-roll-Type at text) (rw fold-roll-Type at depth) (rw fold-roll-Type at name)
of_layer brackets word d (Type-F.NonNullList t) text depth name =
    d.required_list t (rw fold-roll-Type at text) (rw fold-roll-Type at depth) (rw fold-roll-Type at name)

no_type : (brackets : ℕ) (word : List ℕ) → Differs brackets word → IsNoType brackets word
no_type brackets word d ty = subst (IsNoneOf brackets word) (roll-out-Type ty) (of_layer brackets word d _)

-- a word that is no list, and whose body is no name
pub no_named : (brackets : ℕ) (word body : List ℕ) (is_required : Bool) → IsBody word body is_required
    → ((rest : List ℕ) → ¬ (body ≡ codes "[" ++ rest)) → ¬ IsName body → IsNoType brackets word
no_named brackets word body false is opens not = no_type brackets word record {
  name = λ n text name. not (subst IsName (text ∙ is.0) name);
  required_name = λ n text name. is.1 n.text (sym text);
  list = λ t text _ _. opens (type_text t ++ codes "]") (sym (text ∙ is.0));
  required_list = λ t text _ _. is.1 (codes "[" ++ type_text t ++ codes "]") (sym text ∙ required _);
}
no_named brackets word body true is opens not = no_type brackets word record {
  name = λ n text name. ends_name body (subst IsName (text ∙ is) name);
  required_name = λ n text name. not (subst IsName (append_cancel_right n.text body _ (text ∙ is)) name);
  list = λ t text _ _. ends (codes "[" ++ type_text t) body (text ∙ is);
  required_list = λ t text _ _. opens (type_text t ++ codes "]") (sym (append_cancel_right _ body _
      (sym (required _) ∙ text ∙ is)));
}

-- a word whose body opens a bracket, and has no type within
pub no_list : (brackets : ℕ) (word body opened : List ℕ) (is_required : Bool) → IsBody word body is_required
    → body ≡ codes "[" ++ opened
    → ((t : TypeReference) → type_text t ++ codes "]" ≡ opened → opened_brackets t + 1 ≤ brackets
    → ¬ IsName (inner_name t).text) → IsNoType brackets word
no_list brackets word body opened false is begun within = no_type brackets word record {
  name = λ n text name. begins opened (subst IsName (text ∙ is.0 ∙ begun) name);
  required_name = λ n text name. is.1 n.text (sym text);
  list = λ t text. within t (append_cancel_left (codes "[") (type_text t ++ codes "]") opened (text
      ∙ is.0 ∙ begun));
  required_list = λ t text _ _. is.1 (codes "[" ++ type_text t ++ codes "]") (sym text ∙ required _);
}
no_list brackets word body opened true is begun within = no_type brackets word record {
  name = λ n text name. ends_name body (subst IsName (text ∙ is) name);
  required_name = λ n text name. begins opened (subst IsName (append_cancel_right n.text body _
      (text ∙ is) ∙ begun) name);
  list = λ t text _ _. ends (codes "[" ++ type_text t) body (text ∙ is);
  required_list = λ t text. within t (append_cancel_left (codes "[") (type_text t ++ codes "]") opened
      (append_cancel_right _ body _ (sym (required _) ∙ text ∙ is) ∙ begun));
}

-- the word of a list, by its parts
pub list_word : (word body opened inner : List ℕ) → word ≡ body → body ≡ codes "[" ++ opened
    → opened ≡ inner ++ codes "]" → codes "[" ++ inner ++ codes "]" ≡ word
list_word word body opened inner is begun closed = ap (λ (l : List ℕ). codes "[" ++ l) (sym closed)
    ∙ sym begun ∙ sym is

pub required_list_word : (word body opened inner : List ℕ) → word ≡ body ++ codes "!"
    → body ≡ codes "[" ++ opened → opened ≡ inner ++ codes "]" → codes "[" ++ inner ++ codes "]!" ≡ word
required_list_word word body opened inner is begun closed = required inner
    ∙ ap (λ (l : List ℕ). l ++ codes "!") (list_word body body opened inner refl begun closed) ∙ sym is
