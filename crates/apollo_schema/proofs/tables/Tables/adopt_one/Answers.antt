use Rattle.apollo_meaning.proofs.Prelude.{◌≡◌, false, None, List, [], ◌∷◌, ◌++◌, OnOk, IfErr, sym, ap}
use Rattle.apollo_meaning.proofs.Prelude.{subst, ◌∙◌, append-nil, option_map, ListItem, Defined, item_of}
use Rattle.apollo_meaning.proofs.Prelude.{extended_part, TypePart}
use Rattle.apollo_folding.specs.DeclaredParts.{part_seen}
use Rattle.apollo_folding.specs.Refusals.{RefusedAs}
use Rattle.apollo_folding.proofs.CompletionLemmas.{adopted-alone, adopted-nothing}
use Rattle.apollo_schema.specs.Stands.{Stands}
use Rattle.apollo_schema.specs.Takes.{Takes, SpentBy}
use Rattle.apollo_schema.proofs.tables.Tables.adopt_one.Goals as goal

pub returns-in_default-clause-stands : goal.returns-in_default-clause-stands
returns-in_default-clause-stands c = λ start xs was.
    let x = c.args.extension.now in
    let none : None ≡ extended_part (item_of x) = sym (ap (option_map part_seen) c.in_default.is)
    ∙ c.extension_of.ensures in
    subst (λ (l : List ListItem). Stands start l c.args.self.now) (sym (append-nil xs)
    ∙ ap (λ l. xs ++ l) (sym (adopted-nothing x none))) was

pub returns-clause-stands : goal.returns-clause-stands
returns-clause-stands c =
    let said = ap (option_map part_seen) (sym c.in-Some.is) ∙ c.extension_of.ensures in
    let these = adopted-alone c.args.extension.now (part_seen c.in-Some.said) said
    ∙ ap (λ (p : TypePart). Defined (record p { ignorable = false }) ∷ []) (sym c.adopted_from.ensures) in
    subst (λ (l : List ListItem). OnOk c.define.result (Takes c.args.self.now l c.define.new.self))
    (sym these) c.define.ensures.stands

pub returns-clause-refused : goal.returns-clause-refused
returns-clause-refused c =
    let said = ap (option_map part_seen) (sym c.in-Some.is) ∙ c.extension_of.ensures in
    let these = adopted-alone c.args.extension.now (part_seen c.in-Some.said) said
    ∙ ap (λ (p : TypePart). Defined (record p { ignorable = false }) ∷ []) (sym c.adopted_from.ensures) in
    subst (λ (l : List ListItem). IfErr c.define.result (λ error.
    RefusedAs error (SpentBy c.args.self.now l))) (sym these) c.define.ensures.refused
