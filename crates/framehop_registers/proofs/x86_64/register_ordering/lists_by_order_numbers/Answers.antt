use Rattle.framehop_registers.proofs.OrderNumbers.{pop_list-begins, pop_list-fits, pop_list-order_number, order-pop_list, order_number-pop_list, same_order}
use Rattle.framehop_registers.proofs.x86_64.register_ordering.lists_by_order_numbers.Goals as goal

pub returns-clause-fits : goal.returns-clause-fits
returns-clause-fits c = pop_list-fits

pub returns-clause-again : goal.returns-clause-again
returns-clause-again c = pop_list-order_number

pub returns-clause-each : goal.returns-clause-each
returns-clause-each c = λ number below. (order-pop_list number below, order_number-pop_list number below)

pub returns-clause-once : goal.returns-clause-once
returns-clause-once c = same_order

pub returns-clause-begins : goal.returns-clause-begins
returns-clause-begins c = pop_list-begins
