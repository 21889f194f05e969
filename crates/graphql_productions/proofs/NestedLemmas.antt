-- What may nest, by how many signs may be open.
use Rattle.std.proofs.Common.{◌≡◌, ◌≢◌, ℕ, zero, suc, ◌-◌, Bool, refl, subst, arith}
use Rattle.graphql_nodes.specs.declared.source.FileId.{FileId}
use Rattle.graphql_grammar.specs.declared.fault.FaultKind.TheVariants.{TooDeep}
use Rattle.graphql_grammar.specs.Pieces.{Piece, State, nested, refused}
use Rattle.graphql_productions.specs.Selections.{nested_set, selection, selection_set, selections_of}
use Rattle.graphql_productions.specs.Types.{list_type_of, nested_list_type, type}
use Rattle.graphql_productions.specs.Values.{group, nested_group, value_node}

-- what is said of a number and of one less, where there is one less
one_less : (P : ℕ → ℕ → Type 0) (depth : ℕ) → ((n : ℕ) → P (suc n) n) → depth ≢ 0 → P depth (depth - 1)
one_less P zero step e = absurd (e refl)
one_less P (suc n) step e = let same : n ≡ suc n - 1 = omega arith in subst (P (suc n)) same (step n)

pub none_nested : {A : Type 0} (depth : ℕ) (p : ℕ → Piece A) (s : State) → depth ≡ 0
    → (nested depth p).read s ≡ refused TooDeep s.left
none_nested depth p s e = rw e refl

pub one_nested : {A : Type 0} (depth : ℕ) (p : ℕ → Piece A) (s : State) → depth ≢ 0
    → (nested depth p).read s ≡ (p (depth - 1)).read s
one_nested depth p s = one_less (λ d n. (nested d p).read s ≡ (p n).read s) depth (λ _. refl)

-- lists and objects

pub no_group : (file : FileId) (constant : Bool) (depth : ℕ) (s : State) → depth ≡ 0
    → (nested_group file constant depth).read s ≡ refused TooDeep s.left
unfolding nested_group
no_group file constant depth s e = rw e refl

pub one_group : (file : FileId) (constant : Bool) (depth : ℕ) (s : State) → depth ≢ 0
    → (nested_group file constant depth).read s ≡ (group file (value_node file constant (depth - 1))).read s
unfolding nested_group
one_group file constant depth s = one_less (λ d n. (nested_group file constant d).read s
    ≡ (group file (value_node file constant n)).read s) depth (λ _. refl)

-- list types

pub no_list_type : (file : FileId) (depth : ℕ) (s : State) → depth ≡ 0
    → (nested_list_type file depth).read s ≡ refused TooDeep s.left
unfolding nested_list_type
no_list_type file depth s e = rw e refl

pub one_list_type : (file : FileId) (depth : ℕ) (s : State) → depth ≢ 0
    → (nested_list_type file depth).read s ≡ (list_type_of (type file (depth - 1))).read s
unfolding nested_list_type
one_list_type file depth s = one_less (λ d n. (nested_list_type file d).read s
    ≡ (list_type_of (type file n)).read s) depth (λ _. refl)

-- selection sets

pub no_set : (file : FileId) (depth : ℕ) (s : State) → depth ≡ 0
    → (nested_set file depth).read s ≡ refused TooDeep s.left
unfolding nested_set
no_set file depth s e = rw e refl

pub one_set : (file : FileId) (depth : ℕ) (s : State) → depth ≢ 0
    → (nested_set file depth).read s
    ≡ (selections_of (selection file (depth - 1) (selection_set file (depth - 1)))).read s
unfolding nested_set
one_set file depth s = one_less (λ d n. (nested_set file d).read s
    ≡ (selections_of (selection file n (selection_set file n))).read s) depth (λ _. refl)
