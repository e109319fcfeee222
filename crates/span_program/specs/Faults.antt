-- The faults that end the program.
use Rattle.span_value.specs.declared.refusal.Refusal.{Refusal}
use Rattle.span_value.specs.declared.refusal.Refusal.TheVariants as refusal
use Rattle.span_program.specs.declared.fault.Fault.{Fault}
use Rattle.span_program.specs.declared.fault.Fault.TheVariants.{Memory, Input, Output}

-- the fault that ends a run of a script with a refusal; beside these two only out of memory does
abbrev pub fault_of : Refusal → Fault
fault_of refusal.InputFault = Input
fault_of refusal.OutputFault = Output
fault_of why = Memory
