-- With what a prepare is refused.
use Rattle.std.proofs.Common.{◌≡◌, true, refl}
use Rattle.span_value.specs.declared.refusal.Refusal.{Refusal}
use Rattle.span_value.specs.declared.refusal.Refusal.TheVariants as refusal
use Rattle.span_mutate.specs.Faults.{is_mutation_fault}
use Rattle.span_shard.specs.Reading.{is_prepare_refusal}

pub fault_number : (why : Refusal) → is_mutation_fault why ≡ true → is_prepare_refusal why ≡ true
fault_number refusal.Exists e = refl
fault_number refusal.Missing e = refl
fault_number refusal.ParentMissing e = refl
fault_number refusal.HasChildren e = refl
fault_number refusal.RowTooLong e = refl
fault_number refusal.OutOfMemory e = refl
fault_number refusal.ShardFull e = refl
fault_number why e = e
