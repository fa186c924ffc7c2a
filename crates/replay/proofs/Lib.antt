mod Program
