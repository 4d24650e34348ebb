use Rattle.std.proofs.Common.{refl, arith}
use Rattle.std.proofs.lemmas.List.{length-set}
use Rattle.journal.proofs.Writes.{fields_long, written}
use Rattle.journal.proofs.new_record.NewRecord.write.Goals as goal

pub bounds-bytes-at : goal.bounds-bytes-at
bounds-bytes-at c = omega (arith, c.requires, fields_long c.args.self.now _ _ _ refl refl refl)

pub write_field-mid-requires : goal.write_field-mid-requires
write_field-mid-requires c = omega (arith, c.requires, fields_long c.args.self.now _ _ _ c.form_of-form.ensures c.six_bytes.ensures refl, length-set c.args.bytes.now c.args.at c.args.self.now.map)

pub write_field-to-requires : goal.write_field-to-requires
write_field-to-requires c =
    let l = fields_long c.args.self.now _ _ _ c.form_of-form.ensures c.six_bytes.ensures c.six_bytes-2.ensures in
    omega (arith, c.requires, c.write_field-mid.ensures.size, c.write_field-mid.auto.bytes, length-set c.args.bytes.now c.args.at c.args.self.now.map)

pub write_field-requires : goal.write_field-requires
write_field-requires c =
    let l = fields_long c.args.self.now _ _ _ c.form_of-form.ensures c.six_bytes.ensures c.six_bytes-2.ensures in
    omega (arith, c.requires, c.write_field-mid.ensures.size, c.write_field-to.ensures.size, c.write_field-mid.auto.bytes, c.write_field-to.auto.bytes, length-set c.args.bytes.now c.args.at c.args.self.now.map)

pub returns : goal.returns
returns c =
    let l = fields_long c.args.self.now _ _ _ c.form_of-form.ensures c.six_bytes.ensures c.six_bytes-2.ensures in
    record {
      size = omega (arith, c.write_field-mid.ensures.size, c.write_field-to.ensures.size, c.write_field.ensures.size);
      after =
          written c.args.self.now _ _ _ c.form_of-form.ensures c.six_bytes.ensures c.six_bytes-2.ensures c.args.at c.args.bytes.now _ _ _ _ _ c.requires c.write_field-mid.ensures.after c.write_field-mid.ensures.size c.write_field-to.ensures.after c.write_field-to.ensures.size c.write_field.ensures.after;
    }
