use Rattle.dr_store_open.proofs.fault.of_error.Goals as goal

pub returns-clause-memory : goal.returns-clause-memory
returns-clause-memory c = (
  λ is. c.fault_of.ensures.memory.0 (c.opening_fault.ensures.memory.0 is),
  λ wants. c.opening_fault.ensures.memory.1 (c.fault_of.ensures.memory.1 wants),
)
