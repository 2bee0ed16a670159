use Rattle.search_laws.proofs.Listing.{next_is_next, closed_found_all, found_in_order}
use Rattle.search_laws.proofs.TraceOrder.{order_of_traces}
use Rattle.search_laws.proofs.laws.search_order.Goals as goal

pub returns-clause-next : goal.returns-clause-next
returns-clause-next c = λ lengths n held sets decisions S laid run finds. next_is_next lengths n laid held sets decisions S run finds

pub returns-clause-order : goal.returns-clause-order
returns-clause-order c = λ lengths n held sets laid run. found_in_order lengths n laid held sets run

pub returns-clause-all : goal.returns-clause-all
returns-clause-all c = λ lengths n held sets S laid run clash stable. closed_found_all lengths n laid held sets S run clash stable

pub returns-clause-traces : goal.returns-clause-traces
returns-clause-traces c = order_of_traces
