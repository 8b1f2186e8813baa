use Rattle.std.proofs.Common.{◌/◌, length, inl, rules, arith}
use Rattle.devices.specs.MemDiskCalls.{KeepsFile, WritesFront}
use Rattle.devices.proofs.MemDiskLemmas.{KeepsFile-follows, writes_front, WritesFront-torn, WritesFront-follows, WritesFront-goes_on}
use Rattle.devices.proofs.RememberLemmas.{ordered_before, KeepsFile-remembers, write_has_piece, write_remembers}
use Rattle.devices.proofs.mem_disk.MemDiskDisk.write_at.Goals as goal

half_written : (c : goal.Else-is_err)
    → WritesFront c.args.self.now c.write_front.new.self c.args.at c.args.bytes.now (length c.args.bytes.now / 2)
half_written c =
    writes_front c.args.self.now c.write_front.new.self c.args.at c.args.bytes.now (length c.args.bytes.now / 2) c.requires
    (omega arith) (search rules) (search rules)
    (write_has_piece c.args.self.now c.write_front.new.self
    (ordered_before c.args.self.now _ _ _ c.begin.ensures.counted c.begin.ensures.ordered) (search rules) c.args.at c.args.bytes.now
    (length c.args.bytes.now / 2) c.requires (omega arith) (search rules) (search rules))

pub returns-then-begin-clause-torn : goal.returns-then-begin-clause-torn
returns-then-begin-clause-torn c = WritesFront-torn _ _ _ _ _ c.requires (omega arith) (half_written c)

pub returns-then-begin-clause-images : goal.returns-then-begin-clause-images
returns-then-begin-clause-images c = WritesFront-follows _ _ _ _ _ c.requires (omega arith) (half_written c)

pub returns-then-begin-clause-goes_on : goal.returns-then-begin-clause-goes_on
returns-then-begin-clause-goes_on c = WritesFront-goes_on _ _ _ _ _ c.requires (omega arith) (half_written c)

pub returns-then-begin-clause-remembers : goal.returns-then-begin-clause-remembers
returns-then-begin-clause-remembers c =
    write_remembers c.args.self.now _ (ordered_before c.args.self.now _ _ _ c.begin.ensures.counted c.begin.ensures.ordered)
    (search rules) c.args.at c.args.bytes.now (length c.args.bytes.now / 2) c.requires (omega arith) (search rules)
    (search rules)

pub returns-then-begin-clause-piece : goal.returns-then-begin-clause-piece
returns-then-begin-clause-piece c = record {
  whole = search rules;
  half = λ listed fed. half_written c;
  nothing = search rules;
  unlisted = search rules;
  half_or_nothing = inl (half_written c);
}

pub returns-then-is_err-clause-remembers : goal.returns-then-is_err-clause-remembers
returns-then-is_err-clause-remembers c =
    KeepsFile-remembers c.args.self.now _ (ordered_before c.args.self.now _ _ _ c.begin.ensures.counted c.begin.ensures.ordered)
    (search rules) (search rules)

pub returns-then-is_err-2-clause-images : goal.returns-then-is_err-2-clause-images
returns-then-is_err-2-clause-images c =
    let kept : KeepsFile c.args.self.now c.starve-then-is_err-2.new.self = search rules in
    KeepsFile-follows _ _ kept c.args.at (length c.args.bytes.now)

pub returns-then-is_err-2-clause-remembers : goal.returns-then-is_err-2-clause-remembers
returns-then-is_err-2-clause-remembers c =
    KeepsFile-remembers c.args.self.now _ (ordered_before c.args.self.now _ _ _ c.begin.ensures.counted c.begin.ensures.ordered)
    (search rules) (search rules)

whole_written : (c : goal.Else-is_err-2)
    → WritesFront c.args.self.now c.write_front-2.new.self c.args.at c.args.bytes.now (length c.args.bytes.now)
whole_written c =
    writes_front c.args.self.now c.write_front-2.new.self c.args.at c.args.bytes.now (length c.args.bytes.now) c.requires
    (omega arith) (search rules) (search rules)
    (write_has_piece c.args.self.now c.write_front-2.new.self
    (ordered_before c.args.self.now _ _ _ c.begin.ensures.counted c.begin.ensures.ordered) (search rules) c.args.at c.args.bytes.now
    (length c.args.bytes.now) c.requires (omega arith) (search rules) (search rules))

pub returns-clause-images : goal.returns-clause-images
returns-clause-images c = WritesFront-follows _ _ _ _ _ c.requires (omega arith) (whole_written c)

pub returns-clause-goes_on : goal.returns-clause-goes_on
returns-clause-goes_on c = WritesFront-goes_on _ _ _ _ _ c.requires (omega arith) (whole_written c)

pub returns-clause-remembers : goal.returns-clause-remembers
returns-clause-remembers c =
    write_remembers c.args.self.now _ (ordered_before c.args.self.now _ _ _ c.begin.ensures.counted c.begin.ensures.ordered)
    (search rules) c.args.at c.args.bytes.now (length c.args.bytes.now) c.requires (omega arith) (search rules)
    (search rules)

pub returns-clause-piece : goal.returns-clause-piece
returns-clause-piece c = record {
  whole = whole_written c;
  half = search rules;
  nothing = search rules;
  unlisted = search rules;
  half_or_nothing = search rules;
}
