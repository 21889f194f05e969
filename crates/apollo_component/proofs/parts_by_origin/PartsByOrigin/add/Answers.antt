use Rattle.apollo_component.proofs.WriteOutLemmas.{definition-push, extension-push}
use Rattle.apollo_component.proofs.parts_by_origin.PartsByOrigin.add.Goals as goal

pub returns-in_ok-push_to-in-Definition : goal.returns-in_ok-push_to-in-Definition
returns-in_ok-push_to-in-Definition g c = λ cs was. definition-push c.args.self.now cs was _ _ _
    c.in-Definition.is c.in_ok-push_to-in-Definition.ensures.added

pub returns-in_ok-add-in-Extension : goal.returns-in_ok-add-in-Extension
returns-in_ok-add-in-Extension g c = λ cs was. extension-push c.args.self.now cs was _ _ _ _ c.in-Extension.is
    c.in_ok-add-in-Extension.ensures
