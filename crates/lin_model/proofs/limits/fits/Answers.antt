use Rattle.lin_model.proofs.limits.fits.Goals as goal

pub returns : goal.returns
returns c = (
  λ yes. record {
    few_vars = c.if-vars-gt-MAX_VARS.false;
    few_atoms = c.if-atoms-gt-MAX_ATOMS.false;
    distinct = c.are_distinct.ensures.0 c.if-not-are_distinct.false;
    in_range = c.atoms_name_below.ensures.0 yes;
  },
  λ fits. c.atoms_name_below.ensures.1 fits.in_range,
)
