use Rattle.std.proofs.Common.{rules}
use Rattle.named_files.proofs.NamingLemmas.{on_ok, ordered-from_sort_by}
use Rattle.named_files.proofs.order.put_in_order.Goals as goal

pub returns-clause-ordered : goal.returns-clause-ordered
returns-clause-ordered c = on_ok c.sort_by.result
    (λ up. ordered-from_sort_by c.sort_by.new.self.items up (λ a r f' k. search rules))
    c.sort_by.ensures.sorted
